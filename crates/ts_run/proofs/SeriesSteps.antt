-- The steps of a command that has a series: a series is refused as it was read, or the reply is one to it.
use Rattle.std.proofs.Common.{◌≡◌, ℤ, Ok, Err, List, Vec, sym, subst}
use Rattle.std.specs.Prelude.{Result}
use Rattle.std.specs.Global.{Global}
use Rattle.ts_model.specs.declared.error.SeriesStop.{SeriesStop}
use Rattle.ts_model.specs.declared.error.SeriesStop.TheVariants.{Shape as NoSeries, Number as NoNumber, Length, Memory as NoMemory}
use Rattle.ts_model.specs.Series.{ReadsSeries}
use Rattle.ts_run.specs.Refusals.{OnSeries}
use Rattle.ts_run.specs.Replies.{NoMore}
use Rattle.ts_run.specs.Reply.{Reply}

refused_as : (reading : Result (List ℤ) SeriesStop) (stop : SeriesStop) (r : Reply) → reading ≡ Err stop → OnSeries (Err stop) NoMore r →
    OnSeries reading NoMore r
refused_as reading stop r e h = subst (λ (x : Result (List ℤ) SeriesStop). OnSeries x NoMore r) (sym e) h

-- a series is refused as it was read
pub series_refused : (reading : Result (List ℤ) SeriesStop) (stop : SeriesStop) (r : Reply) → ReadsSeries (λ (v : Vec ℤ Global). v.items) (Err stop) reading →
    OnSeries (Err stop) NoMore r → OnSeries reading NoMore r
series_refused reading NoSeries r e h = refused_as reading NoSeries r e h
series_refused reading NoNumber r e h = refused_as reading NoNumber r e h
series_refused reading Length r e h = refused_as reading Length r e h
series_refused reading NoMemory r e h = absurd h

-- a refusal is a reply, whatever is replied to a series
pub series_as : (reading : Result (List ℤ) SeriesStop) (Is Js : List ℤ → Reply → Type 0) → ((xs : List ℤ) (r : Reply) → Is xs r → Js xs r) → (r : Reply) →
    OnSeries reading Is r → OnSeries reading Js r
series_as (Ok xs) Is Js f r h = f xs r h
series_as (Err NoSeries) Is Js f r h = h
series_as (Err NoNumber) Is Js f r h = h
series_as (Err Length) Is Js f r h = h
series_as (Err NoMemory) Is Js f r h = absurd h

pub series_refusal : (reading : Result (List ℤ) SeriesStop) (next : List ℤ → Reply → Type 0) (r : Reply) → OnSeries reading NoMore r → OnSeries reading next r
series_refusal reading next r h = series_as reading NoMore next (λ xs s k. absurd k) r h
