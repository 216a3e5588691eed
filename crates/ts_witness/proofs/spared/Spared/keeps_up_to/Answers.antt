use Rattle.std.proofs.Common.{rules, ◌≡◌, ◌≤ℤ◌, ◌<◌, ◌-◌, ◌∙◌, ap, [], refl, sym, subst, length, vec_len, get_or, ℤ, true, arith, w64, to_z, of_z}
use Rattle.std.specs.Prelude.{Contains}
use Rattle.std.proofs.lemmas.Int.{ints, to_z-of_z}
use Rattle.std.proofs.lemmas.List.{get_or_default}
use Rattle.ts_base.specs.Limits.{IsCellValue}
use Rattle.ts_bound.specs.TermSpans.{automata_of}
use Rattle.ts_domain.specs.Values.{IsDomain}
use Rattle.ts_filter.proofs.BoxParts.{domain_at}
use Rattle.ts_glue.specs.Machines.{forward_of}
use Rattle.ts_witness.specs.KnownValues.{MeetsWith}
use Rattle.ts_witness.specs.Witnesses.{series_of}
use Rattle.ts_witness.proofs.Alive.{told_kept}
use Rattle.ts_witness.proofs.KnownValues.{cell_value, entry_there, learnt, learnt_beside, told_known}
use Rattle.ts_witness.proofs.spared.Spared.keeps_up_to.Goals as goal

pub index-known-requires : goal.index-known-requires
index-known-requires c =
    let s = c.bring_beside.new.self in
    let size : vec_len s.each ≡ length s.each.items = search rules in
    let count = (c.bring_beside.ensures.spared c.args.r.now c.requires.spared).count in
    let as_long : length s.cells.now ≡ length c.args.self.now.cells.now = ap (λ z. length z.now) c.bring_beside.ensures.same in
    let long = c.requires.count in let to = c.requires.to in let from = c.requires.from in omega (arith, size, count, as_long, long, to, from)

pub index_mut-requires : goal.index_mut-requires
index_mut-requires c =
    let s = c.bring_beside.new.self in
    let size : vec_len s.each ≡ length s.each.items = search rules in
    let count = (c.bring_beside.ensures.spared c.args.r.now c.requires.spared).count in
    let as_long : length s.cells.now ≡ length c.args.self.now.cells.now = ap (λ z. length z.now) c.bring_beside.ensures.same in
    let long = c.requires.count in let to = c.requires.to in let from = c.requires.from in omega (arith, size, count, as_long, long, to, from)

pub meets_up_to-limit-requires-clause-letters : goal.meets_up_to-limit-requires-clause-letters
meets_up_to-limit-requires-clause-letters c = (c.bring_beside.ensures.spared c.args.r.now c.requires.spared).letters

pub meets_up_to-limit-requires-clause-domain : goal.meets_up_to-limit-requires-clause-domain
meets_up_to-limit-requires-clause-domain c =
    let s = c.bring_beside.new.self in
    let i = c.args.k - 1 in
    let long = c.requires.count in let to = c.requires.to in let from = c.requires.from in
    let as_long : length s.cells.now ≡ length c.args.self.now.cells.now = ap (λ z. length z.now) c.bring_beside.ensures.same in
    let inside : i < length s.cells.now = omega (arith, as_long, long, to, from) in
    subst IsDomain (get_or_default s.cells.now i [] c.index-cells-i.result inside ∙ sym c.index-cells-i.is)
    (domain_at s.cells.now i (c.bring_beside.ensures.spared c.args.r.now c.requires.spared).box inside)

pub returns-then-high-reach-clause-spared : goal.returns-then-high-reach-clause-spared
returns-then-high-reach-clause-spared c = c.bring_beside.ensures.spared c.args.r.now c.requires.spared

pub returns-then-is_between-clause-spared : goal.returns-then-is_between-clause-spared
returns-then-is_between-clause-spared c = c.bring_beside.ensures.spared c.args.r.now c.requires.spared

pub reach-reach-requires : goal.reach-reach-requires
reach-reach-requires c =
    let to = c.requires.to in let from = c.requires.from in
    subst IsCellValue (sym (to_z-of_z w64 c.args.low c.ranges.low))
    (cell_value c.args.m.now c.args.r.now (series_of c.args.witness.now) c.args.self.now c.bring_beside.new.self (c.args.k - 1)
    c.index-known.result.now c.bring_beside.ensures.same (c.bring_beside.ensures.spared c.args.r.now c.requires.spared) c.requires.count
    (omega (arith, to, from)) c.requires.few c.requires.cells c.requires.split c.index-known.ensures c.bring_beside.ensures.here c.args.low c.requires.there)

pub returns-then-is_between-clause-told : goal.returns-then-is_between-clause-told
returns-then-is_between-clause-told c =
    let to = c.requires.to in let from = c.requires.from in
    λ v has least up.
    let within = c.reach-reach.ensures v (subst (λ z. z ≤ℤ v) (sym (to_z-of_z w64 c.args.low c.ranges.low)) least)
    (subst (λ z. v ≤ℤ z) (to_z-of_z w64 c.reach-reach.result (search rules)) up) in
    told_known c.args.m.now c.args.r.now (series_of c.args.witness.now) c.args.self.now c.bring_beside.new.self (c.args.k - 1)
    c.index-known.result.now c.bring_beside.ensures.same (c.bring_beside.ensures.spared c.args.r.now c.requires.spared) c.requires.count
    (omega (arith, to, from)) c.requires.few c.requires.cells c.requires.split c.index-known.ensures c.bring_beside.ensures.here v has within.0 within.1

pub returns-then-high-reach-clause-told : goal.returns-then-high-reach-clause-told
returns-then-high-reach-clause-told c =
    let to = c.requires.to in let from = c.requires.from in let high = c.if-high-reach.true in
    λ v has least greatest.
    let within = c.reach-reach.ensures v (subst (λ z. z ≤ℤ v) (sym (to_z-of_z w64 c.args.low c.ranges.low)) least) (omega (arith, ints, high, greatest)) in
    told_known c.args.m.now c.args.r.now (series_of c.args.witness.now) c.args.self.now c.bring_beside.new.self (c.args.k - 1)
    c.index-known.result.now c.bring_beside.ensures.same (c.bring_beside.ensures.spared c.args.r.now c.requires.spared) c.requires.count
    (omega (arith, to, from)) c.requires.few c.requires.cells c.requires.split c.index-known.ensures c.bring_beside.ensures.here v has within.0 within.1

pub returns-clause-told : goal.returns-clause-told
returns-clause-told c =
    let s = c.bring_beside.new.self in
    let i = c.args.k - 1 in
    let same = c.bring_beside.ensures.same in
    let long = c.requires.count in let to = c.requires.to in let from = c.requires.from in
    let as_long : length s.cells.now ≡ length c.args.self.now.cells.now = ap (λ z. length z.now) same in
    let inside : i < length s.cells.now = omega (arith, as_long, long, to, from) in
    let domain = get_or_default s.cells.now i [] c.index-cells-i.result inside ∙ sym c.index-cells-i.is in
    λ v has from to. subst (λ y. MeetsWith (forward_of c.args.m.now) c.args.r.now y i v) c.bring_beside.ensures.series
    (c.meets_up_to-limit.ensures.met v
    (subst (λ d. Contains d v) domain (subst (λ z. Contains (get_or z.now i []) v) (sym same) has))
    (subst (λ z. z ≤ℤ v) (sym (to_z-of_z w64 c.args.low c.ranges.low)) from)
    (subst (λ z. v ≤ℤ z) (to_z-of_z w64 c.meets_up_to-limit.result (search rules)) to))

pub returns-clause-spared : goal.returns-clause-spared
returns-clause-spared c =
    let s = c.bring_beside.new.self in
    let i = c.args.k - 1 in
    let same = c.bring_beside.ensures.same in
    let low = to_z w64 (of_z w64 c.args.low) in
    let limit = to_z w64 (of_z w64 c.meets_up_to-limit.result) in
    let long = c.requires.count in let to = c.requires.to in let from = c.requires.from in
    let as_long : length s.cells.now ≡ length c.args.self.now.cells.now = ap (λ z. length z.now) same in
    let inside : i < length s.cells.now = omega (arith, as_long, long, to, from) in
    let domain = get_or_default s.cells.now i [] c.index-cells-i.result inside ∙ sym c.index-cells-i.is in
    learnt c.args.m.now c.args.r.now (series_of c.args.witness.now) c.args.self.now s i c.index-known.result.now same
    (c.bring_beside.ensures.spared c.args.r.now c.requires.spared) c.requires.count (omega (arith, to, from)) c.requires.few c.requires.cells
    c.requires.split c.index-known.ensures c.bring_beside.ensures.here _ c.and_then.result low limit refl refl refl c.and_then.ensures.sides
    c.and_then.ensures.known
    (λ v has from to. subst (λ y. MeetsWith (forward_of c.args.m.now) c.args.r.now y i v) c.bring_beside.ensures.series
    (c.meets_up_to-limit.ensures.met v (subst (λ d. Contains d v) domain (subst (λ z. Contains (get_or z.now i []) v) (sym same) has)) from
    (subst (λ z. v ≤ℤ z) (to_z-of_z w64 c.meets_up_to-limit.result (search rules)) to)))

pub returns-clause-beside : goal.returns-clause-beside
returns-clause-beside c =
    let s = c.bring_beside.new.self in
    let i = c.args.k - 1 in
    let count = (c.bring_beside.ensures.spared c.args.r.now c.requires.spared).count in
    let as_long : length s.cells.now ≡ length c.args.self.now.cells.now = ap (λ z. length z.now) c.bring_beside.ensures.same in
    let long = c.requires.count in let to = c.requires.to in let from = c.requires.from in
    learnt_beside c.args.m.now (series_of c.args.witness.now) s _ i c.index-known.result.now c.and_then.result refl refl c.and_then.ensures.time
    c.and_then.ensures.sides
    (entry_there s.each.items i c.index-known.result.now c.index-known.ensures (omega (arith, count, as_long, long, to, from)))
    c.bring_beside.ensures.beside

-- with each value up to the one that is answered the series meets: these are kept

pub returns-then-high-reach-clause-kept : goal.returns-then-high-reach-clause-kept
returns-then-high-reach-clause-kept c =
    λ v has from to. told_kept (automata_of c.args.m.now) c.args.r.now (series_of c.args.witness.now) c.args.k v true
    (sym (returns-then-high-reach-clause-told c v has from to)) refl

pub returns-then-is_between-clause-kept : goal.returns-then-is_between-clause-kept
returns-then-is_between-clause-kept c =
    λ v has from to. told_kept (automata_of c.args.m.now) c.args.r.now (series_of c.args.witness.now) c.args.k v true
    (sym (returns-then-is_between-clause-told c v has from to)) refl

pub returns-clause-kept : goal.returns-clause-kept
returns-clause-kept c =
    λ v has from to. told_kept (automata_of c.args.m.now) c.args.r.now (series_of c.args.witness.now) c.args.k v true
    (sym (returns-clause-told c v has from to)) refl
