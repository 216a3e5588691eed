-- Texts that are owed one after the other, and how a call ends that gives a reply line by line.
use Rattle.std.proofs.Common.{◌≡◌, ℕ, ◌+◌, ◌-◌, ◌<◌, ◌≤◌, inl, inr, Bool, true, false, nat_lt, Option, Some, None, List, [], ◌∷◌, ◌++◌, length, take, drop, refl, sym, ◌∙◌, ap, subst, arith, append_assoc, append-nil, length-append}
use Rattle.std.specs.Prelude.{IsSome, Result, Ok, Err, OnErr}
use Rattle.std.specs.Result.{is_err}
use Rattle.std.proofs.lemmas.Bool.Decides.{nat_tests}
use Rattle.std.proofs.lemmas.List.{take-append-drop}
use Rattle.std.proofs.Math.Seq.{take-append-add, take-append_seam}
use Rattle.ts_base.specs.declared.error.Failed.{Failed}
use Rattle.ts_base.specs.Outside.{Prefix, taken_more}
use Rattle.ts_base.proofs.Pieces.{taken_more-twice}
use Rattle.ts_run.specs.Refusals.{refused_length}
use Rattle.ts_run.specs.LiveEndings.{EndsInLines, StreamGiven, StreamReplies}
use Rattle.ts_run.specs.LiveSteps.{Stops, TakesDue}
use Rattle.ts_run.specs.Reply.{ComesOfInput, Reply, behind_text}
use Rattle.ts_run.specs.Streams.{Due, IsFront, IsLines, IsStream}
use Rattle.ts_run.specs.declared.status.Status.{Status}
use Rattle.ts_run.specs.declared.status.Status.TheVariants.{Done, No, Refused, Budget, ReadFault, WriteFault, Memory}

pub on_err : (P : Type 0) (r : Result (Unit {0}) Failed) → true ≡ is_err r → OnErr r P → P
on_err P (Ok x) e h = cc
on_err P (Err f) e h = h

-- fronts

pub front_on : (a b c : List ℕ) → IsFront a b → IsFront b c → IsFront a c
front_on a b c h k = (h.0 ++ k.0, k.1 ∙ ap (λ (t : List ℕ). t ++ k.0) h.1 ∙ append_assoc a h.0 k.0)

pub front_of : (n : ℕ) (text : List ℕ) → IsFront (take n text) text
front_of n text = (drop n text, sym (take-append-drop n text))

pub front_all : (text : List ℕ) → IsFront text text
front_all text = ([], sym (append-nil text))

pub front_behind : (a b c : List ℕ) → IsFront b c → IsFront (a ++ b) (a ++ c)
front_behind a b c h = (h.0, ap (λ (t : List ℕ). a ++ t) h.1 ∙ sym (append_assoc a b h.0))

pub lines_behind : (a b : List ℕ) → IsLines a → IsLines b → IsLines (a ++ b)
lines_behind a b h (inl none) = subst IsLines (sym (ap (λ (t : List ℕ). a ++ t) none ∙ append-nil a)) h
lines_behind a b h (inr some) = inr (a ++ some.0, ap (λ (t : List ℕ). a ++ t) some.1 ∙ sym (append_assoc a some.0 (10 ∷ [])))

-- a prefix of the text was taken
pub front_taken : (front text : List ℕ) (before after : Option (List ℕ)) → IsFront front text → after ≡ taken_more before front → Prefix text before after
front_taken front text before after h e =
    let count = ap (λ (t : List ℕ). length t) h.1 ∙ length-append front h.0 in
    (length front, omega (arith, count), e ∙ ap (taken_more before) (sym (ap (take (length front)) h.1 ∙ take-append_seam front h.0)))

-- a reply after a text that was taken

module _ (a b : List ℕ) (given : Status) (before mid after : Option (List ℕ)) (took : mid ≡ taken_more before a) (lines : IsLines a) where
  twice : (t : List ℕ) → after ≡ taken_more mid t → after ≡ taken_more before (a ++ t)
  twice t e = e ∙ ap (λ (o : Option (List ℕ)). taken_more o t) took ∙ taken_more-twice before a t

  pub ends_behind : (status : Status) → EndsInLines (record { text = b; status = given }) mid after status →
      EndsInLines (record { text = a ++ b; status = given }) before after status
  ends_behind Done h = (twice b h.0, h.1)
  ends_behind No h = (twice b h.0, h.1)
  ends_behind Refused h = (twice b h.0, h.1)
  ends_behind Budget h = (twice b h.0, h.1)
  ends_behind ReadFault h = (twice b h.0, h.1)
  ends_behind WriteFault h =
      let count = length-append a b in
      let few = h.1 in
      (length a + h.0, omega (arith, count, few), twice (take h.0 b) h.2 ∙ ap (taken_more before) (sym (take-append-add a b h.0)))
  ends_behind Memory h = (a ++ h.0, front_behind a h.0 b h.1, lines_behind a h.0 lines h.2, twice h.0 h.3)

-- the reply to all bytes of a stream

module _ (due : List ℕ → Due) (reply : List ℕ → Reply) (stream : IsStream due reply) where
  -- a status with which bytes end the stream comes of them
  pub ended_input : (bytes : List ℕ) (status : Status) → (due bytes).ended ≡ Some status → ComesOfInput status
  ended_input bytes status e = subst (λ (r : Reply). ComesOfInput r.status) (stream.closes bytes status e) (stream.input bytes)

  abbrev over_by : Option Status → List ℕ → Reply
  over_by None first = behind_text (due first).text refused_length
  over_by (Some status) first = reply first

  abbrev given_by : Bool → ℕ → List ℕ → Reply
  given_by false limit bytes = reply bytes
  given_by true limit bytes = over_by (due (take limit bytes)).ended (take limit bytes)

  abbrev pub given_reply : ℕ → List ℕ → Reply
  given_reply limit bytes = given_by (nat_lt limit (length bytes)) limit bytes

  over_is : (limit : ℕ) (bytes : List ℕ) → limit < length bytes → (ended : Option Status) → (due (take limit bytes)).ended ≡ ended →
      StreamReplies limit (λ b r. r ≡ reply b) due bytes (over_by ended (take limit bytes))
  over_is limit bytes more None e = inr (inr (take limit bytes, record { longer = more; front = refl }, e, refl))
  over_is limit bytes more (Some status) e =
      inr (inl (take limit bytes, record { longer = more; front = refl }, subst (λ (o : Option Status). IsSome o) (sym e) refl, refl))

  pub given_is : (limit : ℕ) (bytes : List ℕ) → StreamReplies limit (λ b r. r ≡ reply b) due bytes (given_reply limit bytes)
  given_is limit bytes = go (nat_lt limit (length bytes)) refl
    where
      go : (t : Bool) → nat_lt limit (length bytes) ≡ t → StreamReplies limit (λ b r. r ≡ reply b) due bytes (given_by t limit bytes)
      go false e = inl (grind (arith, nat_tests), refl)
      go true e = over_is limit bytes (grind (arith, nat_tests)) (due (take limit bytes)).ended refl

  -- bytes within the limit

  module _ (limit : ℕ) (p z : List ℕ) (few : length p ≤ limit) where
    within : take limit (p ++ z) ≡ p ++ take (limit - length p) z
    within = ap (λ (n : ℕ). take n (p ++ z)) (omega (arith, few)) ∙ take-append-add p z (limit - length p)

    over_front : (ended : Option Status) → IsFront (due (p ++ take (limit - length p) z)).text (over_by ended (p ++ take (limit - length p) z)).text
    over_front None = (refused_length.text, refl)
    over_front (Some status) = stream.begins (p ++ take (limit - length p) z)

    given_front : (t : Bool) → IsFront (due p).text (given_by t limit (p ++ z)).text
    given_front false = front_on (due p).text (due (p ++ z)).text (reply (p ++ z)).text (stream.grows p z) (stream.begins (p ++ z))
    given_front true =
        subst (λ (x : List ℕ). IsFront (due p).text (over_by (due x).ended x).text) (sym within)
        (front_on (due p).text (due (p ++ take (limit - length p) z)).text _ (stream.grows p (take (limit - length p) z))
        (over_front (due (p ++ take (limit - length p) z)).ended))

    -- what bytes within the limit owe begins the reply
    pub owed_first : IsFront (due p).text (given_reply limit (p ++ z)).text
    owed_first = given_front (nat_lt limit (length (p ++ z)))

    module _ (status : Status) (ended : (due p).ended ≡ Some status) where
      closed_with : (more : List ℕ) → reply (p ++ more) ≡ record { text = (due p).text; status = status }
      closed_with more =
          let same = stream.over p more status ended in
          stream.closes (p ++ more) status (ap (λ (d : Due). d.ended) same ∙ ended)
          ∙ ap (λ (d : Due). record { text = d.text; status = status }) same

      given_over : (t : Bool) → given_by t limit (p ++ z) ≡ record { text = (due p).text; status = status }
      given_over false = closed_with z
      given_over true =
          ap (λ (x : List ℕ). over_by (due x).ended x) within
          ∙ ap (λ (o : Option Status). over_by o (p ++ take (limit - length p) z))
          (ap (λ (d : Due). d.ended) (stream.over p (take (limit - length p) z) status ended) ∙ ended)
          ∙ closed_with (take (limit - length p) z)

      -- where bytes within the limit have ended the stream, what they owe is the reply
      pub owed_all : given_reply limit (p ++ z) ≡ record { text = (due p).text; status = status }
      owed_all = given_over (nat_lt limit (length (p ++ z)))

-- a piece stops the call

module _ (due : List ℕ → Due) (reply : List ℕ → Reply) (stream : IsStream due reply) (limit : ℕ) (p y z : List ℕ) (few : length (p ++ y) ≤ limit)
    (before now after : Option (List ℕ)) (took : now ≡ taken_more before (due p).text) where
  abbrev all : Reply
  all = given_reply due reply stream limit ((p ++ y) ++ z)

  both : (t : List ℕ) → after ≡ taken_more now t → after ≡ taken_more before ((due p).text ++ t)
  both t e = e ∙ ap (λ (o : Option (List ℕ)). taken_more o t) took ∙ taken_more-twice before (due p).text t

  taken_front : (more : List ℕ) → IsFront ((due p).text ++ more) (due (p ++ y)).text → IsFront ((due p).text ++ more) all.text
  taken_front more h = front_on ((due p).text ++ more) (due (p ++ y)).text all.text h (owed_first due reply stream limit (p ++ y) z few)

  whole : (status : Status) → TakesDue due p y now after → (due (p ++ y)).ended ≡ Some status → (after ≡ taken_more before all.text) × (all.status ≡ status)
  whole status h ended =
      let is = owed_all due reply stream limit (p ++ y) z few status ended in
      (both h.0 h.2 ∙ ap (taken_more before) (sym h.1) ∙ ap (λ (r : Reply). taken_more before r.text) (sym is), ap (λ (r : Reply). r.status) is)

  stop_ends : (status : Status) → Stops due p y now after status → EndsInLines all before after status
  stop_ends Done s = whole Done s.0 s.1
  stop_ends No s = whole No s.0 s.1
  stop_ends Refused s = whole Refused s.0 s.1
  stop_ends Budget s = whole Budget s.0 s.1
  stop_ends ReadFault s = whole ReadFault s.0 s.1
  stop_ends WriteFault s = front_taken ((due p).text ++ s.0) all.text before after (taken_front s.0 s.1) (both s.0 s.3)
  stop_ends Memory s = ((due p).text ++ s.0, taken_front s.0 s.1, s.2, both s.0 s.3)

  pub stop_given : (bytes : List ℕ) (status : Status) → bytes ≡ (p ++ y) ++ z → Stops due p y now after status →
      StreamGiven limit (λ b r. r ≡ reply b) due bytes before after status
  stop_given bytes status is s =
      subst (λ (x : List ℕ). StreamGiven limit (λ b r. r ≡ reply b) due x before after status) (sym is)
      (record { reply = all; is = given_is due reply stream limit ((p ++ y) ++ z); ends = stop_ends status s })
