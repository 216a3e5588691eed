-- The reply of `check`: there is one, and it is `meets` exactly where the series meets the model.
use Rattle.std.proofs.Common.{◌≡◌, ℕ, ℤ, Bool, true, false, cond, refl, Ok, Err, List, length, sym, ◌∙◌, ap, subst}
use Rattle.std.specs.Prelude.{Result}
use Rattle.ts_model.specs.declared.error.ModelKind.{ModelKind}
use Rattle.ts_model.specs.declared.error.SeriesStop.{SeriesStop}
use Rattle.ts_model.specs.declared.error.SeriesStop.TheVariants.{Shape as NoSeries, Number as NoNumber, Length, Memory as NoMemory}
use Rattle.ts_token.specs.Text.{cut_of}
use Rattle.ts_model.specs.Judgement.{is_met}
use Rattle.ts_model.specs.ModelParts.{ModelParts}
use Rattle.ts_model.specs.ModelReading.{model_reading}
use Rattle.ts_model.specs.declared.model.Need.TheVariants.{Values}
use Rattle.ts_model.proofs.MeetsLaw.{judged_is_met}
use Rattle.ts_checker.specs.Verified.{model_part, rest_part}
use Rattle.ts_run.specs.AnswerTexts.{CheckReply, DoneIsMeets, IsAsked, OneCheckReply, SeriesReply, series_in}
use Rattle.ts_run.specs.Refusals.{OnReading, OnSeries}
use Rattle.ts_run.specs.Headline.{SaysMeets}
use Rattle.ts_run.specs.Reply.{Reply}
use Rattle.ts_run.specs.Verdict.{verdict, with_head}
use Rattle.ts_run.specs.declared.status.Status.TheVariants.{Done, No}
use Rattle.ts_run.proofs.Inputs.{series_count}

-- there is one reply

pub one_reading_reply : (reading : Result ModelParts (ℕ × ModelKind)) (next : ModelParts → Reply → Type 0) →
    ((m : ModelParts) (r s : Reply) → next m r → next m s → r ≡ s) →
    (r s : Reply) → OnReading reading next r → OnReading reading next s → r ≡ s
one_reading_reply (Ok m) next only r s h k = only m r s h k
one_reading_reply (Err bad) next only r s h k = h ∙ sym k

pub one_series_reply : (reading : Result (List ℤ) SeriesStop) (answer : List ℤ → Reply) (r s : Reply) → OnSeries reading (λ xs x. x ≡ answer xs) r →
    OnSeries reading (λ xs x. x ≡ answer xs) s → r ≡ s
one_series_reply (Ok xs) answer r s h k = h ∙ sym k
one_series_reply (Err NoSeries) answer r s h k = h ∙ sym k
one_series_reply (Err NoNumber) answer r s h k = h ∙ sym k
one_series_reply (Err Length) answer r s h k = h ∙ sym k
one_series_reply (Err NoMemory) answer r s h k = absurd h

pub one_check_reply : OneCheckReply
one_check_reply bytes r s h k =
    one_reading_reply _ (SeriesReply (rest_part bytes)) (λ m x y p q. one_series_reply (series_in m (rest_part bytes)) (verdict m) x y p q) r s h k

-- the status

verdict_given : (bytes : List ℕ) (m : ModelParts) (xs : List ℤ) (r : Reply) → IsAsked bytes m xs → CheckReply bytes r → r ≡ verdict m xs
verdict_given bytes m xs r asked h =
    subst (λ (x : Result (List ℤ) SeriesStop). OnSeries x (λ ys s. s ≡ verdict m ys) r) asked.series
    (subst (λ (x : Result ModelParts (ℕ × ModelKind)). OnReading x (SeriesReply (rest_part bytes)) r) asked.model h)

head_status : (b : Bool) (rest : List ℕ) → (with_head b rest).status ≡ cond b Done No
head_status true rest = refl
head_status false rest = refl

done_true : (b : Bool) → cond b Done No ≡ Done → b ≡ true
done_true true e = refl
done_true false e = cc

true_done : (b : Bool) → b ≡ true → cond b Done No ≡ Done
true_done b e = ap (λ (t : Bool). cond t Done No) e

false_no : (b : Bool) → (b ≡ true → ⊥) → cond b Done No ≡ No
false_no true f = absurd (f refl)
false_no false f = refl

pub done_is_meets : DoneIsMeets
done_is_meets bytes m xs r asked h =
    let same = ap (λ (x : Reply). x.status) (verdict_given bytes m xs r asked h) ∙ head_status (is_met m xs) _ in
    let law = judged_is_met m xs (series_count (length m.cells) (cut_of (rest_part bytes)) xs asked.series) in
    (λ e. law.0 (done_true (is_met m xs) (sym same ∙ e)), λ w. same ∙ true_done (is_met m xs) (law.1 w))

-- the reply to a model and a series
pub says_meets : (bytes : List ℕ) (m : ModelParts) (xs : List ℤ) (r : Reply) → IsAsked bytes m xs → CheckReply bytes r → SaysMeets m xs r
says_meets bytes m xs r asked h =
    let same : r.status ≡ cond (is_met m xs) Done No =
    ap (λ (x : Reply). x.status) (verdict_given bytes m xs r asked h) ∙ head_status (is_met m xs) _ in
    let law = judged_is_met m xs (series_count (length m.cells) (cut_of (rest_part bytes)) xs asked.series) in
    let done = done_is_meets bytes m xs r asked h in
    record {
      text = verdict_given bytes m xs r asked h;
      meets = done;
      fails = (λ e w. let both : No ≡ Done = sym e ∙ done.1 w in cc, λ f. same ∙ false_no (is_met m xs) (λ t. f (law.0 t)));
    }

-- the reply to a model and what is read as its series
series_says : (bytes : List ℕ) (m : ModelParts) (r : Reply) → model_reading Values (model_part bytes) ≡ Ok m → CheckReply bytes r →
    (reading : Result (List ℤ) SeriesStop) → series_in m (rest_part bytes) ≡ reading → OnSeries reading (λ xs s. s ≡ verdict m xs) r →
    OnSeries reading (SaysMeets m) r
series_says bytes m r states h (Ok xs) is given = says_meets bytes m xs r (record { model = states; series = is }) h
series_says bytes m r states h (Err NoSeries) is given = given
series_says bytes m r states h (Err NoNumber) is given = given
series_says bytes m r states h (Err Length) is given = given
series_says bytes m r states h (Err NoMemory) is given = given

pub says_checked : (bytes : List ℕ) (m : ModelParts) (r : Reply) → model_reading Values (model_part bytes) ≡ Ok m → CheckReply bytes r →
    OnSeries (series_in m (rest_part bytes)) (SaysMeets m) r
says_checked bytes m r states h =
    series_says bytes m r states h (series_in m (rest_part bytes)) refl
    (subst (λ (x : Result ModelParts (ℕ × ModelKind)). OnReading x (SeriesReply (rest_part bytes)) r) states h)
