use Rattle.std.specs.Prelude.{◌≡◌, map, IfOk, refl}
use Rattle.std.proofs.Common.{subst}
use Rattle.ts_regex.specs.Shape.{shape_of}
use Rattle.ts_regex.specs.NormalForm.{nest, normal_alt}
use Rattle.ts_regex.proofs.Members.{members_of_both}
use Rattle.ts_regex.proofs.normal_form.normal_alt.Goals as goal

pub returns : goal.returns
returns c =
    let rs = c.collect_members-2.new.found.items in
    let both : nest (map shape_of rs) ≡ normal_alt (shape_of c.args.r) (shape_of c.args.s) =
    members_of_both c.new-found.result.items c.collect_members.new.found.items rs (shape_of c.args.r) (shape_of c.args.s) (nest (map shape_of rs))
    c.new-found.ensures.items c.in_ok-collect_members.ensures c.in_ok-collect_members-2.ensures refl in
    subst (λ z. IfOk c.nest.result (λ n. shape_of n ≡ z)) both c.nest.ensures
