use Rattle.std.proofs.Common.{◌≡◌, ◌++◌, map, drop}
use Rattle.ts_certificate.specs.Certificate.{series_text}
use Rattle.ts_certificate.proofs.write.push_all_series.Given as goal

abbrev pub invariant-loop-values : goal.invariant-loop-values
invariant-loop-values l =
    l.text.items ++ series_text (map (λ v. v.items) (drop l.values-index l.series)) ≡ l.fn.text.items ++ series_text (map (λ v. v.items) l.series)
