-- A call over a stream: what was read and written in the midst of it, and how it ends.
use Rattle.std.proofs.Common.{◌≡◌, ℕ, ◌+◌, ◌-◌, ◌<◌, ◌≤◌, ◌⊎◌, inl, inr, Option, Some, None, List, [], ◌++◌, length, take, drop, refl, sym, ◌∙◌, ap, subst, arith, append_assoc, append-nil, length-append}
use Rattle.std.specs.Prelude.{IfSome}
use Rattle.std.proofs.lemmas.List.{length-take-le}
use Rattle.std.proofs.Math.Seq.{take-add, take-append_seam}
use Rattle.ts_base.specs.Outside.{AtEnd, Rose, put_back, taken_more}
use Rattle.ts_base.proofs.Pieces.{given_after, put_back-twice, taken_more-twice}
use Rattle.ts_run.specs.Refusals.{fault_read, refused_length}
use Rattle.ts_run.specs.LiveEndings.{EndsInLines, LiveEnds, StreamBroken, StreamGiven}
use Rattle.ts_run.specs.LiveSteps.{EndsBehind, Serves, Stops}
use Rattle.ts_run.specs.Reply.{EndsWritten, Reply, behind_text}
use Rattle.ts_run.specs.Streams.{Due, IsFront, IsLines, IsStream, nothing_due}
use Rattle.ts_run.specs.declared.status.Status.{Status}
use Rattle.ts_run.specs.declared.status.Status.TheVariants.{Done, No, Refused, Budget, ReadFault, WriteFault, Memory}
use Rattle.ts_run.proofs.StreamLaws.{ends_behind, given_is, given_reply, stop_given}

-- these bytes came of the source and were taken, and `spare` more may come; what they owe was written
pub record Going {T : Type 0} (Came : List ℕ → T → Type 0) (due : List ℕ → Due) (limit spare : ℕ) (left left_now before now : Option (List ℕ)) (live : T) :
    Type 0 where
  pub bytes : List ℕ
  pub came : Came bytes live
  pub gave : left ≡ put_back bytes left_now
  pub count : length bytes + spare ≡ limit
  pub took : now ≡ taken_more before (due bytes).text
  pub unended : (due bytes).ended ≡ None

abbrev pub rest_of : Option (List ℕ) → List ℕ
rest_of None = []
rest_of (Some rest) = rest

stated : (read : List ℕ) (left left_now : Option (List ℕ)) → left ≡ put_back read left_now → IfSome left (λ all. all ≡ read ++ rest_of left_now)
stated read None left_now e = tt
stated read (Some all) None e = cc
stated read (Some all) (Some rest) e = cc

no_piece : (left : Option (List ℕ)) → put_back [] left ≡ left
no_piece None = refl
no_piece (Some xs) = refl

none_taken : (before : Option (List ℕ)) → before ≡ taken_more before []
none_taken None = refl
none_taken (Some t) = ap Some (sym (append-nil t))

nothing_left : (rest : Option (List ℕ)) → AtEnd rest → rest_of rest ≡ []
nothing_left None end = refl
nothing_left (Some xs) end = end

-- what a reply adds to what was taken, whole or in part

abbrev Adds : Option (List ℕ) → Option (List ℕ) → Type 0
Adds before after = (more : List ℕ) × (after ≡ taken_more before more)

adds_lines : (r : Reply) (before after : Option (List ℕ)) (status : Status) → EndsInLines r before after status → Adds before after
adds_lines r before after Done h = (r.text, h.0)
adds_lines r before after No h = (r.text, h.0)
adds_lines r before after Refused h = (r.text, h.0)
adds_lines r before after Budget h = (r.text, h.0)
adds_lines r before after ReadFault h = (r.text, h.0)
adds_lines r before after WriteFault h = (take h.0 r.text, h.2)
adds_lines r before after Memory h = (h.0, h.3)

adds_stop : (due : List ℕ → Due) (p y : List ℕ) (before after : Option (List ℕ)) (status : Status) → Stops due p y before after status → Adds before after
adds_stop due p y before after Done s = (s.0.0, s.0.2)
adds_stop due p y before after No s = (s.0.0, s.0.2)
adds_stop due p y before after Refused s = (s.0.0, s.0.2)
adds_stop due p y before after Budget s = (s.0.0, s.0.2)
adds_stop due p y before after ReadFault s = (s.0.0, s.0.2)
adds_stop due p y before after WriteFault s = (s.0, s.3)
adds_stop due p y before after Memory s = (s.0, s.3)

adds_twice : (t : List ℕ) (before mid after : Option (List ℕ)) → mid ≡ taken_more before t → Adds mid after →
    (more : List ℕ) × (after ≡ taken_more before (t ++ more))
adds_twice t before mid after took h = (h.0, h.1 ∙ ap (λ (o : Option (List ℕ)). taken_more o h.0) took ∙ taken_more-twice before t h.0)

module _ (due : List ℕ → Due) (reply : List ℕ → Reply) (stream : IsStream due reply) (limit : ℕ) (left left_now : Option (List ℕ)) (faults faults_now : ℕ)
    (before after : Option (List ℕ)) (status : Status) where
  abbrev Is : List ℕ → Reply → Type 0
  Is bytes r = r ≡ reply bytes

  abbrev Ends : Type 0
  Ends = LiveEnds limit Is due left left_now faults faults_now before after status

  -- `p` was taken before the last read
  ends_so : (p read : List ℕ) → IsFront p read → left ≡ put_back read left_now → length read ≤ limit + 1 → length read ≤ length p + 65536 →
      length p ≤ limit → (due p).ended ≡ None → (more : List ℕ) × (after ≡ taken_more before ((due p).text ++ more)) →
      ((faults_now ≡ faults) × StreamGiven limit Is due (read ++ rest_of left_now) before after status)
      ⊎ (Rose faults faults_now × StreamBroken limit due read before after status) → (status ≡ ReadFault → Rose faults faults_now) → Ends
  ends_so p read front gave most near few unended written response fault = record {
    bytes = read ++ rest_of left_now;
    stated = stated read left left_now gave;
    read = read;
    front = (rest_of left_now, refl);
    rest = given_after read left left_now gave;
    most = most;
    last = record { first = p; front = front; near = near; within = few; open_still = unended; written = written };
    reply = response;
    fault = fault;
  }

  -- there was no memory to begin
  pub ends_start : left_now ≡ left → faults_now ≡ faults → after ≡ before → status ≡ Memory → Ends
  ends_start same calm kept is =
      let opens = stream.opens in
      let whole : left ≡ put_back [] left_now = sym (no_piece left_now ∙ same) in
      let text : (due []).text ≡ [] = ap (λ (d : Due). d.text) opens in
      let ends : EndsInLines (given_reply due reply stream limit ([] ++ rest_of left_now)) before after status =
      subst (λ (s : Status). EndsInLines (given_reply due reply stream limit ([] ++ rest_of left_now)) before after s) (sym is)
      ([], (_, refl), inl refl, kept ∙ none_taken before) in
      ends_so [] [] ([], refl) whole (omega arith) (omega arith) (omega arith) (ap (λ (d : Due). d.ended) opens)
      ([], kept ∙ none_taken before ∙ ap (λ (t : List ℕ). taken_more before (t ++ [])) (sym text))
      (inl (
        calm,
        record {
          reply = given_reply due reply stream limit ([] ++ rest_of left_now);
          is = given_is due reply stream limit ([] ++ rest_of left_now);
          ends = ends;
        },
      ))
      (λ e. let wrong : Memory ≡ ReadFault = sym is ∙ e in cc)

  module _ {T : Type 0} (Came : List ℕ → T → Type 0) (live : T) (spare : ℕ) (mid now : Option (List ℕ))
      (h : Going Came due limit spare left mid before now live) where
    -- a read failed
    pub ends_fault : left_now ≡ mid → Rose faults faults_now → EndsInLines fault_read now after status → Ends
    ends_fault kept rose ends =
        let p = h.bytes in
        let count = h.count in
        ends_so p p ([], sym (append-nil p)) (h.gave ∙ ap (put_back p) (sym kept)) (omega (arith, count)) (omega arith) (omega (arith, count)) h.unended
        (adds_twice (due p).text before now after h.took (adds_lines fault_read now after status ends))
        (inr (
          rose,
          record {
            within = omega (arith, count);
            open_still = h.unended;
            ends = ends_behind (due p).text fault_read.text ReadFault before now after h.took (stream.lines p) status ends;
          },
        ))
        (λ _. rose)

    given_end : (d : Due) (r : Reply) → now ≡ taken_more before d.text → IsLines d.text → EndsBehind d r now after status → EndsInLines r before after status
    given_end d r took lines e =
        subst (λ (x : Reply). EndsInLines x before after status) (sym e.1)
        (ends_behind d.text e.0.text e.0.status before now after took lines status e.2)

    -- the input ends
    pub ends_end : mid ≡ put_back [] left_now → AtEnd mid → faults_now ≡ faults → (status ≡ ReadFault → ⊥) →
        EndsBehind (due h.bytes) (reply h.bytes) now after status → Ends
    ends_end gave end calm well e =
        let p = h.bytes in
        let count = h.count in
        let same : mid ≡ left_now = gave ∙ no_piece left_now in
        let none : rest_of left_now ≡ [] = nothing_left left_now (subst AtEnd same end) in
        let all : p ++ rest_of left_now ≡ p = ap (λ (t : List ℕ). p ++ t) none ∙ append-nil p in
        let given : StreamGiven limit Is due p before after status = record {
          reply = reply p;
          is = inl (omega (arith, count), refl);
          ends = given_end (due p) (reply p) h.took (stream.lines p) e;
        } in
        ends_so p p ([], sym (append-nil p)) (h.gave ∙ ap (put_back p) same) (omega (arith, count)) (omega arith) (omega (arith, count)) h.unended
        (adds_twice (due p).text before now after h.took (adds_lines e.0 now after status e.2))
        (inl (calm, subst (λ (x : List ℕ). StreamGiven limit Is due x before after status) (sym all) given)) (λ x. absurd (well x))

    module _ (m fits : ℕ) (buffer : List ℕ) (room : m ≤ length buffer) (gave : mid ≡ put_back (take m buffer) left_now)
        (near : m ≤ 65536) (most : m ≤ spare + 1)
        (small : fits ≤ m) (within : fits ≤ spare) where
      gave_more : left ≡ put_back (h.bytes ++ take m buffer) left_now
      gave_more = h.gave ∙ ap (put_back h.bytes) gave ∙ put_back-twice h.bytes (take m buffer) left_now

      read_long : length (h.bytes ++ take m buffer) ≡ length h.bytes + m
      read_long = length-append h.bytes (take m buffer) ∙ ap (λ (n : ℕ). length h.bytes + n) (length-take-le m buffer room)

      fits_long : length (h.bytes ++ take fits buffer) ≡ length h.bytes + fits
      fits_long = length-append h.bytes (take fits buffer) ∙ ap (λ (n : ℕ). length h.bytes + n) (length-take-le fits buffer (omega (arith, small, room)))

      abbrev beyond : List ℕ
      beyond = take (m - fits) (drop fits buffer)

      split : take m buffer ≡ take fits buffer ++ beyond
      split = ap (λ (n : ℕ). take n buffer) (omega (arith, small)) ∙ take-add fits (m - fits) buffer

      parts : (h.bytes ++ take m buffer) ++ rest_of left_now ≡ (h.bytes ++ take fits buffer) ++ (beyond ++ rest_of left_now)
      parts =
          ap (λ (t : List ℕ). (h.bytes ++ t) ++ rest_of left_now) split
          ∙ ap (λ (t : List ℕ). t ++ rest_of left_now) (sym (append_assoc h.bytes (take fits buffer) beyond))
          ∙ append_assoc (h.bytes ++ take fits buffer) beyond (rest_of left_now)

      ends_read : (faults_now ≡ faults) × StreamGiven limit Is due ((h.bytes ++ take m buffer) ++ rest_of left_now) before after status →
          Adds now after → (status ≡ ReadFault → ⊥) → Ends
      ends_read response adds well =
          let count = h.count in
          let long = read_long in
          ends_so h.bytes (h.bytes ++ take m buffer) (take m buffer, refl) gave_more (omega (arith, count, long, most)) (omega (arith, long, near))
          (omega (arith, count)) h.unended (adds_twice (due h.bytes).text before now after h.took adds) (inl response) (λ e. absurd (well e))

      -- a piece stops the call
      pub ends_stop : faults_now ≡ faults → Stops due h.bytes (take fits buffer) now after status → (status ≡ ReadFault → ⊥) → Ends
      ends_stop calm stops well =
          let count = h.count in
          let long = fits_long in
          ends_read (
            calm,
            stop_given due reply stream limit h.bytes (take fits buffer) (beyond ++ rest_of left_now) (omega (arith, count, long, within)) before now after
                h.took ((h.bytes ++ take m buffer) ++ rest_of left_now) status parts stops,
          )
          (adds_stop due h.bytes (take fits buffer) now after status stops) well

      -- one byte more came
      pub ends_over : (took : Option (List ℕ)) → spare < m → fits ≡ spare → faults_now ≡ faults → Serves due h.bytes (take fits buffer) now took None →
          EndsInLines refused_length took after status → (status ≡ ReadFault → ⊥) → Ends
      ends_over took past all calm served ends well =
          let count = h.count in
          let long = fits_long in
          let p = h.bytes ++ take fits buffer in
          let z = beyond ++ rest_of left_now in
          let full : length p ≡ limit = omega (arith, count, long, all) in
          let bytes_long = length-append (h.bytes ++ take m buffer) (rest_of left_now) in
          let read_is = read_long in
          let more : limit < length ((h.bytes ++ take m buffer) ++ rest_of left_now) = omega (arith, count, bytes_long, read_is, past) in
          let first : p ≡ take limit ((h.bytes ++ take m buffer) ++ rest_of left_now) =
          sym (ap (take limit) parts ∙ ap (λ (n : ℕ). take n (p ++ z)) (sym full) ∙ take-append_seam p z) in
          let got : took ≡ taken_more before (due p).text =
          served.0.2 ∙ ap (λ (o : Option (List ℕ)). taken_more o served.0.0) h.took ∙ taken_more-twice before (due h.bytes).text served.0.0
          ∙ ap (taken_more before) (sym served.0.1) in
          ends_read (
            calm,
            record {
              reply = behind_text (due p).text refused_length;
              is = inr (inr (p, record { longer = more; front = first }, served.1, refl));
              ends = ends_behind (due p).text refused_length.text Refused before took after got (stream.lines p) status ends;
            },
          )
          (let more = adds_twice served.0.0 now took after served.0.2 (adds_lines refused_length took after status ends) in (served.0.0 ++ more.0, more.1)) well

-- a piece is done with
pub going_on : {T : Type 0} (Came : List ℕ → T → Type 0) (due : List ℕ → Due) (limit spare : ℕ)
    (left mid left_now before now after : Option (List ℕ)) (live next : T)
    (h : Going Came due limit spare left mid before now live) (m fits : ℕ) (buffer : List ℕ) → m ≤ length buffer → mid ≡ put_back (take m buffer) left_now →
    fits ≡ m → m ≤ spare → Serves due h.bytes (take fits buffer) now after None → Came (h.bytes ++ take fits buffer) next →
    Going Came due limit (spare - m) left left_now before after next
going_on Came due limit spare left mid left_now before now after live next h m fits buffer room gave same few served came =
    let count = h.count in
    let long = length-append h.bytes (take m buffer) in
    let long_x = length-take-le m buffer room in
    let p = h.bytes ++ take fits buffer in
    let is : p ≡ h.bytes ++ take m buffer = ap (λ (n : ℕ). h.bytes ++ take n buffer) same in
    let long_p : length p ≡ length (h.bytes ++ take m buffer) = ap (λ (t : List ℕ). length t) is in
    record {
      bytes = p;
      came = came;
      gave = h.gave ∙ ap (put_back h.bytes) gave ∙ put_back-twice h.bytes (take m buffer) left_now ∙ ap (λ (t : List ℕ). put_back t left_now) (sym is);
      count = omega (arith, count, long, long_x, long_p, few);
      took = served.0.2 ∙ ap (λ (o : Option (List ℕ)). taken_more o served.0.0) h.took ∙ taken_more-twice before (due h.bytes).text served.0.0
          ∙ ap (taken_more before) (sym served.0.1);
      unended = served.1;
    }

pub going_none : {T : Type 0} (Came : List ℕ → T → Type 0) (due : List ℕ → Due) (limit : ℕ) (left before : Option (List ℕ)) (live : T) → due [] ≡ nothing_due →
    Came [] live → Going Came due limit limit left left before before live
going_none Came due limit left before live opens came = record {
  bytes = [];
  came = came;
  gave = sym (no_piece left);
  count = omega arith;
  took = none_taken before ∙ ap (λ (d : Due). taken_more before d.text) (sym opens);
  unended = ap (λ (d : Due). d.ended) opens;
}

pub not_read : (status : Status) → (EndsWritten status → status ≡ Refused) → status ≡ ReadFault → ⊥
not_read status written e =
    let same : ReadFault ≡ Refused = sym e ∙ written (subst EndsWritten (sym e) tt) in
    cc
