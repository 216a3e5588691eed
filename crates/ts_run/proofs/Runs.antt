-- How a call of `run` ends, by its words: refused, of a command that takes its whole input, of one that takes it as a
-- stream, or of one that reads nothing.
use Rattle.std.proofs.Common.{◌≡◌, ◌⊎◌, ℕ, ◌≤◌, inl, inr, Option, Some, None, List, [], length, refl, sym, ap, subst, arith, length-take}
use Rattle.std.specs.Prelude.{IfSome}
use Rattle.ts_base.specs.Outside.{Rose}
use Rattle.ts_run.specs.AnswerTexts.{IsReply}
use Rattle.ts_run.specs.Commands.{KeepsRanges, input_of, RepliesAtOnce}
use Rattle.ts_run.specs.Endings.{CallEnds, CallTakes, InputEnds, InputTakes, OfBytes, RepliesWithin, Responds, RunEnds, SinkTells, SourceTells, WholeEnds, WholeTakes, CallSpares, InputSpares, due_of}
use Rattle.ts_run.specs.Headline.{Headline}
use Rattle.ts_run.specs.LiveEndings.{LiveEnds, StreamBroken, StreamGiven, StreamReplies}
use Rattle.ts_run.specs.Reply.{EndsWith, Reply, TellsNoFault}
use Rattle.ts_run.specs.Streams.{Due}
use Rattle.ts_run.specs.Watch.{watch_due, watch_reply}
use Rattle.ts_run.specs.Well.{ReadsWell, WritesWell}
use Rattle.ts_run.specs.declared.command.Command.{Command}
use Rattle.ts_run.specs.declared.command.Command.TheVariants.{Check, Compile, Verify, Best, Generate, Sample, Mark, Watch}
use Rattle.ts_run.specs.declared.command.Input.{Input}
use Rattle.ts_run.specs.declared.command.Input.TheVariants.{Whole, Live, Nothing}
use Rattle.ts_run.specs.declared.status.Status.{Status}
use Rattle.ts_run.specs.declared.status.Status.TheVariants.{Done, No, Refused, Budget, ReadFault, WriteFault, Memory}
use Rattle.ts_run.proofs.Headlines.{FitsIn, headline}

-- what holds of a reply holds of the one that was given

module _ (before after : Option (List ℕ)) (status : Status) where
  ends_as : (Is Js : Reply → Type 0) → ((r : Reply) → Is r → Js r) → EndsWith Is before after status → EndsWith Js before after status
  ends_as Is Js f (inl h) = inl h
  ends_as Is Js f (inr h) = inr (h.0, f h.0 h.1, h.2)

  module _ (faults faults_now limit : ℕ) (Is Js : List ℕ → Reply → Type 0)
      (f : (bytes : List ℕ) (r : Reply) → length bytes ≤ limit → Is bytes r → Js bytes r) where
    within_as : (bytes : List ℕ) (r : Reply) → RepliesWithin limit Is bytes r → RepliesWithin limit Js bytes r
    within_as bytes r (inl h) = inl (h.0, f bytes r h.0 h.1)
    within_as bytes r (inr h) = inr h

    responds_as : (bytes : List ℕ) → Responds (RepliesWithin limit Is bytes) faults faults_now before after status →
        Responds (RepliesWithin limit Js bytes) faults faults_now before after status
    responds_as bytes (inl h) = inl (h.0, ends_as (RepliesWithin limit Is bytes) (RepliesWithin limit Js bytes) (within_as bytes) h.1)
    responds_as bytes (inr h) = inr h

    of_bytes : (left : Option (List ℕ)) → OfBytes left (λ bytes. Responds (RepliesWithin limit Is bytes) faults faults_now before after status) →
        OfBytes left (λ bytes. Responds (RepliesWithin limit Js bytes) faults faults_now before after status)
    of_bytes None h = (h.0, responds_as h.0 h.1)
    of_bytes (Some bytes) h = responds_as bytes h

    whole_as : (left : Option (List ℕ)) → WholeEnds limit Is left faults faults_now before after status →
        WholeEnds limit Js left faults faults_now before after status
    whole_as left h = record { reply = of_bytes left h.reply; fault = h.fault }

-- what holds of a reply to a stream holds of the one that was given

module _ (limit : ℕ) (Is Js : List ℕ → Reply → Type 0) (due : List ℕ → Due) (f : (bytes : List ℕ) (r : Reply) → length bytes ≤ limit → Is bytes r → Js bytes r)
    (before after : Option (List ℕ)) (status : Status) where
  stream_as : (bytes : List ℕ) (r : Reply) → StreamReplies limit Is due bytes r → StreamReplies limit Js due bytes r
  stream_as bytes r (inl h) = inl (h.0, f bytes r h.0 h.1)
  stream_as bytes r (inr (inl h)) =
      let long = ap (λ (t : List ℕ). length t) h.1.front in
      inr (inl (h.0, h.1, h.2, f h.0 r (omega (arith, long, length-take limit bytes)) h.3))
  stream_as bytes r (inr (inr h)) = inr (inr h)

  given_as : (bytes : List ℕ) → StreamGiven limit Is due bytes before after status → StreamGiven limit Js due bytes before after status
  given_as bytes h = record { reply = h.reply; is = stream_as bytes h.reply h.is; ends = h.ends }

  pub live_as : (left left_now : Option (List ℕ)) (faults faults_now : ℕ) → LiveEnds limit Is due left left_now faults faults_now before after status →
      LiveEnds limit Js due left left_now faults faults_now before after status
  live_as left left_now faults faults_now h = record {
    bytes = h.bytes;
    stated = h.stated;
    read = h.read;
    front = h.front;
    rest = h.rest;
    most = h.most;
    last = h.last;
    reply = go h.reply;
    fault = h.fault;
  }
    where
      go : ((faults_now ≡ faults) × StreamGiven limit Is due h.bytes before after status)
          ⊎ (Rose faults faults_now × StreamBroken limit due h.read before after status) →
          ((faults_now ≡ faults) × StreamGiven limit Js due h.bytes before after status)
          ⊎ (Rose faults faults_now × StreamBroken limit due h.read before after status)
      go (inl g) = inl (g.0, given_as h.bytes g.1)
      go (inr g) = inr g

-- a command that reads nothing replies at once

pub unread_at_once : (command : Command) → input_of command ≡ Nothing → RepliesAtOnce command
unread_at_once Check e = tt
unread_at_once Compile e = tt
unread_at_once Verify e = absurd (cc)
unread_at_once (Best goal lines) e = tt
unread_at_once (Generate count lines) e = tt
unread_at_once (Sample cells) e = tt
unread_at_once Mark e = tt
unread_at_once Watch e = absurd (cc)

-- `watch` alone takes its input as a stream
pub is_watch : (command : Command) (limit : ℕ) → input_of command ≡ Live limit → command ≡ Watch
is_watch Check limit e = cc
is_watch Compile limit e = cc
is_watch Verify limit e = cc
is_watch (Best goal lines) limit e = cc
is_watch (Generate count lines) limit e = cc
is_watch (Sample cells) limit e = cc
is_watch Mark limit e = cc
is_watch Watch limit e = refl

-- what `watch` owes and replies is what the command does

module _ (limit : ℕ) (left left_now : Option (List ℕ)) (faults faults_now : ℕ) (before after : Option (List ℕ)) (status : Status) where
  pub watch_ends : (command : Command) → command ≡ Watch →
      LiveEnds limit (λ bytes r. r ≡ watch_reply bytes) watch_due left left_now faults faults_now before after status →
      LiveEnds limit (IsReply command) (due_of command) left left_now faults faults_now before after status
  watch_ends command is h =
      subst (λ c. LiveEnds limit (IsReply c) (due_of c) left left_now faults faults_now before after status) (sym is) h

-- a command's numbers

kept : (given : Option Command) (command : Command) → given ≡ Some command → IfSome given KeepsRanges → KeepsRanges command
kept given command is h = subst (λ g. IfSome g KeepsRanges) is h

module _ {S K : Type 0} (s : SourceTells S) (k : SinkTells K) (given : Option Command) (source : S) (sink sink_now : K) (status : Status)
    (writes : WritesWell k.faults k.is_broken k.is_finished k.finishes sink sink_now status) where
  -- nothing was read

  module _ (calm : status ≡ ReadFault → ⊥) where
    unread : ReadsWell s.faults s.is_broken s.ends source source status
    unread = record {
      fault = λ e. absurd (calm e);
      broken = λ e. absurd (calm e);
      before = λ e. refl;
      stops = inl refl;
      calm = λ e. refl;
      later = omega arith;
    }

  module _ (command : Command) (is : given ≡ Some command) (ranges : IfSome given KeepsRanges) where
    spared : (input : Input) → input_of command ≡ input → (status ≡ Memory → InputSpares input k sink sink_now) → status ≡ Memory →
        CallSpares given k sink sink_now
    spared input takes spares e =
        subst (λ g. CallSpares g k sink sink_now) (sym is) (subst (λ i. InputSpares i k sink sink_now) (sym takes) (spares e))

    pub whole_run : (source_now : S) (limit : ℕ) → (status ≡ Memory → sink_now ≡ sink) → input_of command ≡ Whole limit →
        WholeEnds limit (IsReply command) (s.left source) (s.faults source) (s.faults source_now) (k.taken sink) (k.taken sink_now) status →
        WholeTakes limit (s.left source) (s.left source_now) status → ReadsWell s.faults s.is_broken s.ends source source_now status →
        RunEnds s k given source source_now sink sink_now status
    whole_run source_now limit spares input ends takes reads =
        let says = λ (bytes : List ℕ) (r : Reply) (few : length bytes ≤ limit) (h : IsReply command bytes r).
        headline command bytes r (kept given command is ranges) (subst (FitsIn bytes) (sym input) few) h in
        let whole = whole_as (k.taken sink) (k.taken sink_now) status (s.faults source) (s.faults source_now) limit (IsReply command) (Headline command) says
        (s.left source) ends in
        record {
          answers = subst
              (λ g. CallEnds g (s.left source) (s.left source_now) (s.faults source) (s.faults source_now) (k.taken sink) (k.taken sink_now) status) (sym is)
              (subst (λ i. InputEnds i (Headline command) (due_of command) (s.left source) (s.left source_now) (s.faults source) (s.faults source_now)
              (k.taken sink) (k.taken sink_now) status) (sym input) whole);
          takes = subst (λ g. CallTakes g s.left source source_now status) (sym is)
              (subst (λ i. InputTakes i s.left source source_now status) (sym input) takes);
          reads = reads;
          writes = writes;
          spares = spared (Whole limit) input spares;
        }

    pub live_run : (source_now : S) (limit : ℕ) → (status ≡ Memory → (k.faults sink_now ≡ k.faults sink) × (k.finishes sink_now ≡ k.finishes sink)) →
        input_of command ≡ Live limit →
        LiveEnds limit (IsReply command) (due_of command) (s.left source) (s.left source_now) (s.faults source) (s.faults source_now) (k.taken sink)
        (k.taken sink_now) status → ReadsWell s.faults s.is_broken s.ends source source_now status →
        RunEnds s k given source source_now sink sink_now status
    live_run source_now limit spares input ends reads =
        let says = λ (bytes : List ℕ) (r : Reply) (few : length bytes ≤ limit) (h : IsReply command bytes r).
        headline command bytes r (kept given command is ranges) (subst (FitsIn bytes) (sym input) few) h in
        let live = live_as limit (IsReply command) (Headline command) (due_of command) says (k.taken sink) (k.taken sink_now) status (s.left source)
        (s.left source_now) (s.faults source) (s.faults source_now) ends in
        record {
          answers = subst
              (λ g. CallEnds g (s.left source) (s.left source_now) (s.faults source) (s.faults source_now) (k.taken sink) (k.taken sink_now) status) (sym is)
              (subst (λ i. InputEnds i (Headline command) (due_of command) (s.left source) (s.left source_now) (s.faults source) (s.faults source_now)
              (k.taken sink) (k.taken sink_now) status) (sym input) live);
          takes = subst (λ g. CallTakes g s.left source source_now status) (sym is)
              (subst (λ i. InputTakes i s.left source source_now status) (sym input) (length ends.read, ends.most, ends.rest));
          reads = reads;
          writes = writes;
          spares = spared (Live limit) input spares;
        }

    pub unread_run : (status ≡ Memory → sink_now ≡ sink) → input_of command ≡ Nothing → EndsWith (IsReply command []) (k.taken sink) (k.taken sink_now) status →
        (status ≡ ReadFault → ⊥) → RunEnds s k given source source sink sink_now status
    unread_run spares input ends calm =
        let says = λ (r : Reply) (h : IsReply command [] r). headline command [] r (kept given command is ranges) (subst (FitsIn []) (sym input) tt) h in
        let told = ends_as (k.taken sink) (k.taken sink_now) status (IsReply command []) (Headline command []) says ends in
        record {
          answers = subst (λ g. CallEnds g (s.left source) (s.left source) (s.faults source) (s.faults source) (k.taken sink) (k.taken sink_now) status)
              (sym is) (subst (λ i. InputEnds i (Headline command) (due_of command) (s.left source) (s.left source) (s.faults source) (s.faults source)
              (k.taken sink)
              (k.taken sink_now) status) (sym input) (refl, told));
          takes = subst (λ g. CallTakes g s.left source source status) (sym is)
              (subst (λ i. InputTakes i s.left source source status) (sym input) refl);
          reads = unread calm;
          writes = writes;
          spares = spared Nothing input spares;
        }

-- a call over a source and a sink that never fail

never_rose : Rose 0 0 → ⊥
never_rose (inl h) = omega (arith, h)
never_rose (inr h) = cc

pub no_fault_reported : (status : Status) → (status ≡ ReadFault → Rose 0 0) → (status ≡ WriteFault → Rose 0 0) → TellsNoFault status
no_fault_reported Done r w = tt
no_fault_reported No r w = tt
no_fault_reported Refused r w = tt
no_fault_reported Budget r w = tt
no_fault_reported ReadFault r w = never_rose (r refl)
no_fault_reported WriteFault r w = never_rose (w refl)
no_fault_reported Memory r w = tt
