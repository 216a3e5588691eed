-- What is known of the lines so far, after one more; and of all lines, where it is the verdict.
use Rattle.std.proofs.Common.{◌≡◌, ◌≢◌, ℕ, ◌^◌, ◌+◌, ◌<◌, ◌≤◌, inl, inr, ⊎_elim, true, List, [], ◌∷◌, ◌++◌, length, map, Option, Some, None, Ok, Err, refl, sym, ◌∙◌, ap, subst, arith, append_assoc}
use Rattle.std.specs.Prelude.{MatchOption, Result}
use Rattle.std.specs.List.{concat}
use Rattle.std.proofs.lemmas.List.{length-map, length_push, map-append}
use Rattle.std.proofs.lemmas.Option.{same_Some}
use Rattle.ts_certificate.specs.declared.state.State.{State}
use Rattle.ts_certificate.specs.declared.state.State.TheVariants.{Start, AfterAim, InSeries, InTree, AfterEnd}
use Rattle.ts_certificate.specs.declared.stop.CertStop.{CertStop}
use Rattle.ts_certificate.specs.declared.stop.CertStop.TheVariants.{Text, CountDiffers, Memory as NoMemory}
use Rattle.ts_certificate.specs.declared.stop.LineStop.{LineStop}
use Rattle.ts_certificate.specs.declared.stop.LineStop.TheVariants.{Grammar, Counts, Memory}
use Rattle.ts_certificate.specs.Certificate.{Cert, cert_lines}
use Rattle.ts_certificate.specs.FirstStop.{MayFollow, AreLines}
use Rattle.ts_certificate.specs.Grammar.{CertLine, IsLine, line_text, may_follow, next_state, state_after}
use Rattle.ts_certificate.specs.LineOf.{line_of}
use Rattle.ts_certificate.specs.Reading.{Reading, fresh, reading_by, reading_unless, reading_with, reading_after, stop_at, tree_lines, answer_at, answer_unless, answer_to, end_stop_at, end_stop_unless, end_stop}
use Rattle.ts_certificate.proofs.CallerLemmas.{line_of_only, at_line, first_told, line_is, moved_few, lines_again, certificate_runs, runs_certificate, runs_from, runs_give, one_value, lines_count, stop_kept}
use Rattle.ts_model.specs.Promise.{IsWhole}
use Rattle.ts_model.specs.ModelParts.{ModelParts}
use Rattle.ts_domain.specs.BoxSeries.{IsBox}
use Rattle.ts_filter.specs.Accepts.{Accepts}
use Rattle.ts_filter.specs.Lines.{Stand, IsOutcome, IsFirstFailing}
use Rattle.ts_filter.specs.RefutedWorseDrop.{Spans}
use Rattle.ts_filter.proofs.LineLaws.{lines_go_on, whole_is_judged, failing_is_rejected, one_first_failing}
use Rattle.ts_checker.specs.declared.verdict.Verdict.{Verdict}
use Rattle.ts_checker.specs.declared.verdict.Verdict.TheVariants.{Accepted, Rejected, Refused}
use Rattle.ts_checker.specs.Checking.{Checking, TakesFirst, TakesOn, TakesBy, Takes, IsGoing, IsStopped, IsOver, HasChecked}
use Rattle.ts_checker.specs.Laws.{NoneChecked, OneVerdict}
use Rattle.ts_spans.specs.Machines.{spans_in}
use Rattle.ts_checker.specs.Verdicts.{AreOf, IsAgainst, IsRefused, IsTrueOf, IsUnended, IsVerdict, verdict_by}
use Rattle.ts_checker.proofs.Truth.{accepted_is_true}

-- lists of lines, one longer

after_one_more : (r : Reading) (texts : List (List ℕ)) (text : List ℕ) → reading_after r (texts ++ text ∷ []) ≡ reading_with (reading_after r texts) text
after_one_more r [] text = refl
after_one_more r (t ∷ texts) text = after_one_more (reading_with r t) texts text

follow_one_more : (s : State) (ls : List CertLine) (l : CertLine) → MayFollow s ls → may_follow (state_after s ls) l ≡ true → MayFollow s (ls ++ l ∷ [])
follow_one_more s [] l h may = (may, tt)
follow_one_more s (k ∷ ls) l h may = (h.0, follow_one_more (next_state s k) ls l h.1 may)

state_one_more : (s : State) (ls : List CertLine) (l : CertLine) → state_after s (ls ++ l ∷ []) ≡ next_state (state_after s ls) l
state_one_more s [] l = refl
state_one_more s (k ∷ ls) l = state_one_more (next_state s k) ls l

-- the texts are those of lines, with one more
lines_one_more : (texts : List (List ℕ)) (text : List ℕ) (l : CertLine) (r q : Reading) → AreLines Start 1 texts r → text ≡ line_text l →
    may_follow r.state l ≡ true → q ≡ record { state = next_state r.state l; next = r.next + 1; stop = None } → AreLines Start 1 (texts ++ text ∷ []) q
lines_one_more texts text l r q a is may same = record {
  lines = a.lines ++ l ∷ [];
  are = ap (λ ts. ts ++ text ∷ []) a.are ∙ ap (λ t. map line_text a.lines ++ t ∷ []) is ∙ sym (map-append line_text a.lines (l ∷ []));
  follow = follow_one_more Start a.lines l a.follow (subst (λ s. may_follow s l ≡ true) a.state may);
  state = ap (λ (z : Reading). z.state) same ∙ ap (λ s. next_state s l) a.state ∙ sym (state_one_more Start a.lines l);
  next = let n : q.next ≡ r.next + 1 = ap (λ (z : Reading). z.next) same in let k = a.next in let j = length_push a.lines l in omega (arith, n, k, j);
}

-- one line more

module _ (m : ModelParts) (s : Spans) (ls : List CertLine) (l : CertLine) where
  found_first : (old new : Stand) (n : ℕ) (after : Option ℕ) → n ≡ length ls + 1 → IsOutcome m s ls old None → TakesFirst m s old n l new after →
      IsOutcome m s (ls ++ l ∷ []) new after
  found_first old new n after count found (inl k) =
      subst (λ f. IsOutcome m s (ls ++ l ∷ []) new f) (sym k.2)
      (subst (λ t. IsOutcome m s (ls ++ l ∷ []) t None) (sym k.1) ((lines_go_on m s ls l).keeps old found k.0))
  found_first old new n after count found (inr k) =
      subst (λ f. IsOutcome m s (ls ++ l ∷ []) new f) (sym (k.2 ∙ ap (λ i. Some i) count)) ((lines_go_on m s ls l).breaks old new found k.0)

  found_on : (old new : Stand) (before after : Option ℕ) (n : ℕ) → n ≡ length ls + 1 → IsOutcome m s ls old before → TakesOn m s old before n l new after →
      IsOutcome m s (ls ++ l ∷ []) new after
  found_on old new None after n count found t = found_first old new n after count found t
  found_on old new (Some k) after n count found t =
      subst (λ f. IsOutcome m s (ls ++ l ∷ []) new f) (sym t.1) ((lines_go_on m s ls l).broken old new k found)

-- nothing waits once a line has broken its rule
empty_on : (m : ModelParts) (s : Spans) (old new : Stand) (before after : Option ℕ) (n : ℕ) (l : CertLine) → (before ≢ None → old.waiting ≡ []) →
    TakesOn m s old before n l new after → after ≢ None → new.waiting ≡ []
empty_on m s old new None after n l empty (inl k) some = absurd (some k.2)
empty_on m s old new None after n l empty (inr k) some = k.1
empty_on m s old new (Some b) after n l empty t some = t.0 ∙ empty (λ e. cc)

-- after a line that was refused
still_stopped : (texts : List (List ℕ)) (text : List ℕ) (old new : Checking) → new.model ≡ old.model → new.failed ≡ old.failed → IsStopped texts old →
    IsStopped (texts ++ text ∷ []) new
still_stopped texts text old new model failed s = record {
  front = s.front;
  line = s.line;
  more = s.more ++ text ∷ [];
  parts = ap (λ (ts : List (List ℕ)). ts ++ text ∷ []) s.parts ∙ append_assoc s.front (s.line ∷ s.more) (text ∷ []);
  before = s.before;
  reading = s.reading;
  unstopped = s.unstopped;
  few = s.few;
  going = s.going;
  refused = s.refused;
  model = model ∙ s.model;
  failed = failed ∙ s.failed;
}

-- what is left to show of one more line, once the model and the reading are known
record IsRest (texts : List (List ℕ)) (c : Checking) : Type 0 where
  going : c.reading.stop ≡ None → IsGoing texts c
  stopped : c.reading.stop ≢ None → IsStopped texts c
  emptied : IsOver c → c.stand.waiting ≡ []

module _ (texts : List (List ℕ)) (text : List ℕ) (old new : Checking) (h : HasChecked texts old) (t : Takes old text new)
    (near : old.reading.stop ≡ None → old.reading.next ≤ 4000000000) where
  abbrev pub longer : List (List ℕ)
  longer = texts ++ text ∷ []

  -- the line was read
  read_on : (l : CertLine) → old.reading.stop ≡ None → line_of old.reading.state text ≡ Ok l → IsRest longer new
  unfolding lines_one_more
  read_on l none line =
      let answer : answer_to old.reading text ≡ Ok l =
      ap (λ o. answer_unless old.reading o text) none ∙ ap (answer_at old.reading.next) line in
      let reading = t.reading ∙ ap (λ o. reading_unless old.reading o text) none ∙ ap (reading_by old.reading) line in
      let read = line_of_only old.reading.state text l line in
      let g = h.going none in
      let taken : TakesOn old.model (spans_in old.model) old.stand old.failed old.reading.next l new.stand new.failed =
      subst (λ a. TakesBy old.model (spans_in old.model) old.stand old.failed old.reading.next a new.stand new.failed) answer t.taken in
      let number : old.reading.next ≡ length g.are.lines + 1 = let n = g.are.next in omega (arith, n) in
      let found = found_on old.model (spans_in old.model) g.are.lines l old.stand new.stand old.failed new.failed old.reading.next number g.found taken in
      record {
        going = λ e. record {
          are = lines_one_more texts text l old.reading new.reading g.are read.0 read.1 reading;
          found = subst (λ m. IsOutcome m (spans_in m) (g.are.lines ++ l ∷ []) new.stand new.failed) (sym t.model) found;
        };
        stopped = λ some. absurd (some (ap (λ (r : Reading). r.stop) reading));
        emptied = λ o. over o (ap (λ (r : Reading). r.stop) reading) taken;
      }
    where
      over : IsOver new → new.reading.stop ≡ None →
          TakesOn old.model (spans_in old.model) old.stand old.failed old.reading.next l new.stand new.failed → new.stand.waiting ≡ []
      over (inl some) stop taken = absurd (some stop)
      over (inr some) stop taken =
          empty_on old.model (spans_in old.model) old.stand new.stand old.failed new.failed old.reading.next l (λ k. h.emptied (inr k)) taken some

  -- the reader stops at the line
  stops : (stop : CertStop) → answer_to old.reading text ≡ Err stop → old.reading.stop ≡ None → new.reading.stop ≡ Some stop → IsRest longer new
  stops stop answer none held =
      let taken : TakesBy old.model (spans_in old.model) old.stand old.failed old.reading.next (Err stop) new.stand new.failed =
      subst (λ a. TakesBy old.model (spans_in old.model) old.stand old.failed old.reading.next a new.stand new.failed) answer t.taken in
      record {
        going = λ e. absurd (let f : ◌≡◌ {A = Option CertStop} None (Some stop) = sym e ∙ held in cc);
        stopped = λ some. record {
          front = texts;
          line = text;
          more = [];
          parts = refl;
          before = old;
          reading = h.reading;
          unstopped = none;
          few = near none;
          going = h.going none;
          refused = λ e. some (ap (λ (r : Reading). r.stop) t.reading ∙ e);
          model = t.model;
          failed = taken.1;
        };
        emptied = λ o. taken.0;
      }

  -- the reader has stopped before the line
  stays : (stop : CertStop) → answer_to old.reading text ≡ Err stop → old.reading.stop ≡ Some stop → new.reading.stop ≡ Some stop → IsRest longer new
  stays stop answer was held =
      let taken : TakesBy old.model (spans_in old.model) old.stand old.failed old.reading.next (Err stop) new.stand new.failed =
      subst (λ a. TakesBy old.model (spans_in old.model) old.stand old.failed old.reading.next a new.stand new.failed) answer t.taken in
      let was_stopped : IsStopped texts old = h.stopped (λ e. let f : ◌≡◌ {A = Option CertStop} None (Some stop) = sym e ∙ was in cc) in
      record {
        going = λ e. absurd (let f : ◌≡◌ {A = Option CertStop} None (Some stop) = sym e ∙ held in cc);
        stopped = λ some. still_stopped texts text old new t.model taken.1 was_stopped;
        emptied = λ o. taken.0;
      }

  by_line : (g : Result CertLine LineStop) → old.reading.stop ≡ None → line_of old.reading.state text ≡ g → IsRest longer new
  by_line (Ok l) none line = read_on l none line
  by_line (Err e) none line =
      let reading = t.reading ∙ ap (λ o. reading_unless old.reading o text) none ∙ ap (reading_by old.reading) line in
      let answer = ap (λ o. answer_unless old.reading o text) none ∙ ap (answer_at old.reading.next) line in
      stops _ answer none (ap (λ (r : Reading). r.stop) reading)

  by_stop : (o : Option CertStop) → old.reading.stop ≡ o → IsRest longer new
  by_stop None e = by_line (line_of old.reading.state text) e refl
  by_stop (Some stop) e =
      let kept = stop_kept old.reading stop text e in
      stays stop kept.0 e (ap (λ (r : Reading). r.stop) (t.reading ∙ kept.1) ∙ e)

  pub one_line_more : HasChecked longer new
  one_line_more =
      let r = by_stop old.reading.stop refl in
      record {
        calm = t.calm ∙ h.calm;
        reading = t.reading ∙ ap (λ q. reading_with q text) h.reading ∙ sym (after_one_more fresh texts text);
        going = r.going;
        stopped = r.stopped;
        emptied = r.emptied;
      }

pub none_checked : NoneChecked
none_checked m = record {
  calm = refl;
  reading = refl;
  going = λ e. record {
    are = record { lines = []; are = refl; follow = tt; state = refl; next = omega arith };
    found = refl;
  };
  stopped = λ some. absurd (some refl);
  emptied = λ o. ⊎_elim (λ n. absurd (n refl)) (λ n. absurd (n refl)) o;
}

-- all lines

record IsEnded (r : Reading) : Type 0 where
  stop : r.stop ≡ None
  state : r.state ≡ AfterEnd

ended_at : (n : ℕ) (s : State) → end_stop_at n s ≡ None → s ≡ AfterEnd
ended_at n Start e = cc
ended_at n (AfterAim a) e = cc
ended_at n (InSeries k) e = cc
ended_at n (InTree c u) e = cc
ended_at n AfterEnd e = refl

ended : (r : Reading) (o : Option CertStop) → r.stop ≡ o → end_stop_unless r o ≡ None → IsEnded r
ended r None is e = record { stop = is; state = ended_at r.next r.state e }
ended r (Some stop) is e = cc

-- the line that is refused

after_append : (r : Reading) (xs ys : List (List ℕ)) → reading_after r (xs ++ ys) ≡ reading_after (reading_after r xs) ys
after_append r [] ys = refl
after_append r (x ∷ xs) ys = after_append (reading_with r x) xs ys

stays_after : (r : Reading) (stop : CertStop) (texts : List (List ℕ)) → r.stop ≡ Some stop → reading_after r texts ≡ r
stays_after r stop [] e = refl
stays_after r stop (t ∷ ts) e =
    let kept = stop_kept r stop t e in ap (λ (q : Reading). reading_after q ts) kept.1 ∙ stays_after r stop ts e

-- fewer tree lines than lines were read
pub state_few : (s : State) (ls : List CertLine) → tree_lines (state_after s ls) ≤ tree_lines s + length ls
state_few s [] = omega arith
state_few s (l ∷ ls) = let a = moved_few s l in let b = state_few (next_state s l) ls in omega (arith, a, b)

module _ (texts : List (List ℕ)) (c : Checking) (h : HasChecked texts c) where
  module _ (s : IsStopped texts c) where
    reads_to : c.reading ≡ reading_after (reading_with s.before.reading s.line) s.more
    reads_to =
        h.reading ∙ ap (reading_after fresh) s.parts ∙ after_append fresh s.front (s.line ∷ s.more)
        ∙ ap (λ (r : Reading). reading_after (reading_with r s.line) s.more) (sym s.reading)

    read_as : (g : Result CertLine LineStop) → line_of s.before.reading.state s.line ≡ g → reading_with s.before.reading s.line ≡ reading_by s.before.reading g
    read_as g e = ap (λ o. reading_unless s.before.reading o s.line) s.unstopped ∙ ap (reading_by s.before.reading) e

    few_before : tree_lines s.before.reading.state < 2 ^ 63
    few_before =
        let are = s.going.are in
        let count = are.next in
        let few = state_few Start are.lines in
        let same = ap tree_lines are.state in
        let near = s.few in
        omega (arith, count, few, same, near)

    against_by : (g : Result CertLine LineStop) → line_of s.before.reading.state s.line ≡ g → IsAgainst texts c.reading.next
    against_by (Ok l) e = absurd (s.refused (ap (λ (r : Reading). r.stop) (read_as (Ok l) e)))
    against_by (Err why) e =
        let are = s.going.are in
        let reads = read_as (Err why) e in
        let stays = stays_after (reading_with s.before.reading s.line) (stop_at s.before.reading.next why) s.more (ap (λ (r : Reading). r.stop) reads) in
        record {
          stop = stop_at (1 + length are.lines) why;
          first = record {
            before = are.lines;
            text = s.line;
            after = s.more;
            parts = s.parts ∙ ap (λ (x : List (List ℕ)). x ++ s.line ∷ s.more) are.are;
            follow = are.follow;
            why = why;
            line = subst (λ (t : State). IsLine t s.line (Err why)) are.state
                (subst (IsLine s.before.reading.state s.line) e (line_is s.before.reading.state s.line few_before));
            is = refl;
          };
          number = ap (λ (r : Reading). r.next) (reads_to ∙ stays ∙ reads) ∙ are.next;
        }

  pub stopped_against : (stop : CertStop) → c.reading.stop ≡ Some stop → IsAgainst texts c.reading.next
  stopped_against stop e =
      let s = h.stopped (λ none. let wrong : ◌≡◌ {A = Option CertStop} None (Some stop) = sym none ∙ e in cc) in
      against_by s (line_of s.before.reading.state s.line) refl

  unended : c.reading.stop ≡ None → c.reading.state ≢ AfterEnd → IsUnended texts c.reading.next
  unended none before =
      let are = (h.going none).are in record {
        lines = are.lines;
        are = are.are;
        follow = are.follow;
        before_end = λ e. before (are.state ∙ e);
        number = let next = are.next in let count = ap length are.are ∙ length-map are.lines line_text in omega (arith, next, count);
      }

  refused_by : (o : Option CertStop) (stop : CertStop) → c.reading.stop ≡ o → end_stop_unless c.reading o ≡ Some stop → IsRefused texts c.reading.next
  refused_by None stop is e =
      inr (unended is (λ ended. let wrong : ◌≡◌ {A = Option CertStop} None (Some stop) = sym (ap (end_stop_at c.reading.next) ended) ∙ e in cc))
  refused_by (Some held) stop is e = inl (stopped_against held is)

-- what is accepted or rejected

record IsWholly (texts : List (List ℕ)) (c : Checking) (f : Option ℕ) : Type 0 where
  cert : Cert
  lines : AreOf texts cert
  judged : MatchOption f (Accepts c.model (spans_in c.model) cert)
      (λ n. IsFirstFailing c.model (spans_in c.model) cert n × (Accepts c.model (spans_in c.model) cert → ⊥))

whole : (texts : List (List ℕ)) (c : Checking) (f : Option ℕ) → HasChecked texts c → c.failed ≡ f → IsEnded c.reading → IsWholly texts c f
whole texts c f h is end =
    let g = h.going end.stop in
    let cert = runs_certificate g.are.lines (runs_from Start g.are.lines AfterEnd g.are.follow (sym g.are.state ∙ end.state)) in
    let found = subst (λ k. IsOutcome c.model (spans_in c.model) (cert_lines cert.0) c.stand k) is
    (subst (λ ls. IsOutcome c.model (spans_in c.model) ls c.stand c.failed) cert.2 g.found) in
    record {
      cert = cert.0;
      lines = record { certificate = cert.1; are = g.are.are ∙ ap (map line_text) cert.2 };
      judged = whole_is_judged c.model (spans_in c.model) cert.0 c.stand f cert.1.listed found;
    }

-- the verdict by where the reading stops and by the first line that breaks its rule is the one of the definitions
pub verdict_is : (texts : List (List ℕ)) (c : Checking) (o : Option CertStop) (f : Option ℕ) → HasChecked texts c → end_stop c.reading ≡ o →
    c.failed ≡ f → IsVerdict c.model texts (verdict_by c.reading.next o f)
verdict_is texts c (Some stop) f h e is = refused_by texts c h c.reading.stop stop refl e
verdict_is texts c None None h e is =
    let w = whole texts c None h is (ended c.reading c.reading.stop refl e) in (w.cert, w.lines, w.judged)
verdict_is texts c None (Some n) h e is =
    let w = whole texts c (Some n) h is (ended c.reading c.reading.stop refl e) in (w.cert, w.lines, w.judged.0)

pub verdict_given : (texts : List (List ℕ)) (c : Checking) (v : Verdict) → v ≡ verdict_by c.reading.next (end_stop c.reading) c.failed → HasChecked texts c →
    IsVerdict c.model texts v
verdict_given texts c v is h =
    subst (λ z. IsVerdict c.model texts z) (sym is) (verdict_is texts c (end_stop c.reading) c.failed h refl refl)

-- what is accepted is true
pub accepted_true : (m : ModelParts) (texts : List (List ℕ)) (v : Verdict) → IsWhole m → IsBox m.cells → v ≡ Accepted → IsVerdict m texts v → IsTrueOf m texts
accepted_true m texts v whole box is h =
    let a = subst (λ z. IsVerdict m texts z) is h in (a.0, a.1, accepted_is_true m a.0 whole box a.2)

-- there is one verdict

-- the number of the line at which a reading stops
abbrev stop_line : CertStop → ℕ
stop_line (Text line) = line
stop_line (CountDiffers line said found) = line
stop_line NoMemory = 0

line_told : (n : ℕ) (why : LineStop) (s : State) (text : List ℕ) → IsLine s text (Err why) → stop_line (stop_at n why) ≡ n
line_told n Grammar s text is = refl
line_told n (Counts said found) s text is = refl
line_told n Memory s text is = absurd is

missed : (s : State) (n : ℕ) → s ≢ AfterEnd → end_stop_at n s ≡ Some (Text n)
missed Start n before = refl
missed (AfterAim a) n before = refl
missed (InSeries k) n before = refl
missed (InTree c u) n before = refl
missed AfterEnd n before = absurd (before refl)

module _ (texts : List (List ℕ)) (short : length texts < 2 ^ 62) where
  count_of : (c : Cert) → AreOf texts c → length texts ≡ length c.series + length c.tree + 3
  count_of c a = ap length a.are ∙ length-map (cert_lines c) line_text ∙ lines_count c

  few_of : (c : Cert) → AreOf texts c → length c.series + length c.tree < 2 ^ 62
  few_of c a = let n = count_of c a in omega (arith, n, short)

  pub one_of : (c d : Cert) → AreOf texts c → AreOf texts d → c ≡ d
  one_of c d a b = one_value c d a.certificate b.certificate (few_of c a) (few_of d b) (ap concat (sym a.are ∙ b.are))

  -- the lines of a certificate are read to their end
  ended_of : (c : Cert) → AreOf texts c → end_stop (reading_after fresh texts) ≡ None
  ended_of c a =
      let runs = runs_give Start (cert_lines c) AfterEnd (certificate_runs c a.certificate) in
      let n = count_of c a in
      let k = lines_count c in
      let less : 0 + length (cert_lines c) < 2 ^ 63 = omega (arith, n, k, short) in
      let read = lines_again Start 1 (cert_lines c) less runs.0 in
      ap (λ ts. end_stop (reading_after fresh ts)) a.are ∙ ap end_stop read.0
      ∙ ap (λ (s : State). end_stop (at_line s (1 + length (cert_lines c)))) runs.1

  -- the lines of a certificate so far are read as they are
  read_lines : (lines : List CertLine) → texts ≡ map line_text lines → MayFollow Start lines →
      reading_after fresh texts ≡ at_line (state_after Start lines) (1 + length lines)
  read_lines lines are follow =
      let count = ap length are ∙ length-map lines line_text in
      let less : 0 + length lines < 2 ^ 63 = omega (arith, count, short) in
      ap (reading_after fresh) are ∙ (lines_again Start 1 lines less follow).0

  stopped_at : (n : ℕ) (a : IsAgainst texts n) → (reading_after fresh texts).stop ≡ Some a.stop
  stopped_at n a = first_told texts a.stop (omega (arith, short)) a.first

  pub not_against : (lines : List CertLine) (n : ℕ) → texts ≡ map line_text lines → MayFollow Start lines → IsAgainst texts n → ⊥
  not_against lines n are follow a =
      let wrong : ◌≡◌ {A = Option CertStop} None (Some a.stop) = sym (ap (λ (r : Reading). r.stop) (read_lines lines are follow)) ∙ stopped_at n a in cc

  -- what the reading shows of the line that is refused
  record IsTold (n : ℕ) : Type 0 where
    stop : CertStop
    is : end_stop (reading_after fresh texts) ≡ Some stop
    at : stop_line stop ≡ n

  told : (n : ℕ) → IsRefused texts n → IsTold n
  told n (inl a) = record {
    stop = a.stop;
    is = ap (end_stop_unless (reading_after fresh texts)) (stopped_at n a);
    at =
        ap stop_line a.first.is ∙ line_told (1 + length a.first.before) a.first.why (state_after Start a.first.before) a.first.text a.first.line ∙ sym a.number;
  }
  told n (inr u) =
      let count = ap length u.are ∙ length-map u.lines line_text in
      let number = u.number in
      record {
        stop = Text (1 + length u.lines);
        is = ap end_stop (read_lines u.lines u.are u.follow) ∙ missed (state_after Start u.lines) (1 + length u.lines) u.before_end;
        at = omega (arith, count, number);
      }

  not_refused : (c : Cert) (n : ℕ) → AreOf texts c → IsRefused texts n → ⊥
  not_refused c n a r = let t = told n r in let e : ◌≡◌ {A = Option CertStop} None (Some t.stop) = sym (ended_of c a) ∙ t.is in cc

  not_both : (m : ModelParts) (c d : Cert) (n : ℕ) → AreOf texts c → AreOf texts d → Accepts m (spans_in m) c → IsFirstFailing m (spans_in m) d n → ⊥
  not_both m c d n a b acc f = failing_is_rejected m (spans_in m) c n (subst (λ z. IsFirstFailing m (spans_in m) z n) (one_of d c b a) f) acc

  same_line : (m : ModelParts) (c d : Cert) (k n : ℕ) → AreOf texts c → AreOf texts d → IsFirstFailing m (spans_in m) c k →
      IsFirstFailing m (spans_in m) d n → k ≡ n
  same_line m c d k n a b f g = one_first_failing m (spans_in m) c k n f (subst (λ z. IsFirstFailing m (spans_in m) z n) (one_of d c b a) g)

  pub same_stop : (k n : ℕ) → IsRefused texts k → IsRefused texts n → k ≡ n
  same_stop k n r q =
      let t = told k r in
      let u = told n q in
      sym t.at ∙ ap stop_line (same_Some t.stop u.stop (sym t.is ∙ u.is)) ∙ u.at

  pub only_verdict : (m : ModelParts) (v w : Verdict) → IsVerdict m texts v → IsVerdict m texts w → v ≡ w
  only_verdict m Accepted Accepted h k = refl
  only_verdict m Accepted (Rejected n) h k = absurd (not_both m h.0 k.0 n h.1 k.1 h.2 k.2)
  only_verdict m Accepted (Refused n) h k = absurd (not_refused h.0 n h.1 k)
  only_verdict m (Rejected n) Accepted h k = absurd (not_both m k.0 h.0 n k.1 h.1 k.2 h.2)
  only_verdict m (Rejected n) (Rejected j) h k = ap Rejected (same_line m h.0 k.0 n j h.1 k.1 h.2 k.2)
  only_verdict m (Rejected n) (Refused j) h k = absurd (not_refused h.0 j h.1 k)
  only_verdict m (Refused n) Accepted h k = absurd (not_refused k.0 n k.1 h)
  only_verdict m (Refused n) (Rejected j) h k = absurd (not_refused k.0 n k.1 h)
  only_verdict m (Refused n) (Refused j) h k = ap Refused (same_stop n j h k)

pub one_verdict : OneVerdict
one_verdict m texts v w short h k = only_verdict texts short m v w h k
