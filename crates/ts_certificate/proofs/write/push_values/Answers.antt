use Rattle.std.proofs.Common.{◌≡◌, ℤ, List, ◌∷◌, ◌++◌, ◌∙◌, ap, map, get_or, pos, refl, rules, SFits, w64, to_z, of_z}
use Rattle.std.specs.Fmt.{signed_decimal}
use Rattle.std.proofs.lemmas.Int.{to_z-of_z}
use Rattle.ts_base.specs.Words.{behind}
use Rattle.ts_certificate.proofs.TextLaws.{one_more}
use Rattle.ts_certificate.proofs.write.push_values.Goals as goal

pub loop-v-preserved : goal.loop-v-preserved
loop-v-preserved c =
    let v = get_or c.args.values.now c.loop-v.v-index (pos 0) in
    let fits : SFits w64 v = search rules in
    let same : to_z w64 (of_z w64 v) ≡ v = to_z-of_z w64 v fits in
    one_more (λ (n : ℤ). 32 ∷ signed_decimal n) (λ (vs : List ℤ). behind (map signed_decimal vs)) (λ n vs. refl) c.args.values.now c.loop-v.v-index (pos 0)
    c.loop-v.text.items c.push_spaced.new.text.items _ c.loop-v-test.true
    (c.in_ok-push_spaced.ensures ∙ ap (λ (n : ℤ). c.loop-v.text.items ++ (32 ∷ signed_decimal n)) same) c.loop-v.invariant
