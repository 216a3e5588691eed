-- Two lends one after the other: both rows as one, and that cut in two.
use Rattle.ts_bound.proofs.Steps.{ℕ, ◌≤◌, ◌+◌, List, [], ◌∷◌, refl, ap, w32, w64, MutBor, proved, full_share, id⊢, ftrue, flft, fres, named, fact, tables, ‵, raw, ◌⊛◌, some, later, ◌$◌, ◌∵◌, !, qed, done, move, keep, drop, use1, use2, use3, use0, split, join, fsplit, feq_l, pick, await, rewrite, suffices, frame, group, enter, addr, stop, no_more, and_then, returns, alloc_all, pass_all, free_all, look_at, get, through, sets, lands_as, u32, usize, yes, no, uint_vals, uint_Tells, uint_Makes, MutRef, mut_vals, mut_Tells, plain, nothing, owned, heard, only, calls_at, lasts, triple_of, on_entry, Stays, walk_of, stay_dropped, Goes-dropped, Goes-spent_ref, ends_at, framed, fact_i, emp, shows, peeks}
use Rattle.ts_bound.specs.contracts.table.HullTable.rows as f
use Rattle.ts_bound.proofs.table.HullTable.rows.Statement.{statement}
use Rattle.ts_bound.proofs.table.HullTable.rows.Code as code
use Rattle.ts_bound.specs.contracts.table.HullTable.both_mut as g
use Rattle.ts_bound.proofs.table.HullTable.both_mut.Met.{met}
use Rattle.ts_bound.specs.contracts.table.HullTable.width as width
use Rattle.ts_bound.proofs.table.HullTable.width.Met.{met as width_met}
use Rattle.ts_bound.specs.contracts.table.cut as h
use Rattle.ts_bound.proofs.table.cut.Met.{met as cut_met}
use Rattle.ts_bound.specs.contracts.table.HullTable.{the_row as R}
use Rattle.ts_automaton.specs.declared.regs.Hull.{Hull}
use Rattle.ts_bound.specs.Rows.{row_at, place, concat_rows, with_written}
use Rattle.ts_bound.specs.LendsRows.{LendsRow, LendsTwo, LendsParts}
use Rattle.std.proofs.Common.{sym}
use Rattle.ts_bound.proofs.RowLaws.{cut_inside, row_before, row_after_at}
use Rattle.ts_bound.proofs.Follows.{both_then}
use Rattle.ts_automaton.specs.contracts.regs.Hull as hull
use denote.Slice.{MutSlice, mut_slice_Lawful}
use denote.Array.{Array}
use denote.Lend.{lends_again, comes_back, LentAgain}
use types.Tokens.{lft_new, lft_end}
use types.Kit.{flt_l}
use denote.Struct.Struct.{Struct-Lawful}
use denote.Struct.Tuple.{Tuple, tuple_type}
use denote.Struct.Declared.{shape}
use Rattle.std.specs.Prelude.{slice_range}
use Rattle.std.proofs.Common.{length, take, drop as drop_l, ◌-◌, ◌++◌, ◌≡◌, arith}

abbrev stayed : Stays f.ended.signature.params f.ended.kept
stayed = (stay_dropped _ no, (stay_dropped _ yes, tt))

pub rows_spec : {M : Type 1} → statement M
rows_spec 𝓤 𝓛 𝓜 𝓡 wired =
    let c = f.clauses 𝓛 𝓜.mem 𝓡.returns in let W = walk_of 𝓛 f.ended stayed c in let 𝓣 = tables 𝓤 𝓛.H 𝓜 𝓡 𝓡.env in
    proved 𝓛 f.ended stayed c 𝓜 𝓡
    (Goes-spent_ref 𝓛 1 (0 ∷ []) tt (plain (λ _. R)), (Goes-dropped 𝓛 1 (plain (λ _. u32)) yes (λ κs x w. refl), tt))
    f.Key.name code.function (code.unfolded 𝓤 𝓛.H 𝓜 𝓡 wired)
    (λ κs. (mut_vals, (uint_vals w32, tt))) (λ κs. (mut_Tells (named 0) κs.0 R, (uint_Tells w32, tt))) (λ κs qs bounds a _ are.
    let κ = κs.0 in let q = qs.0 in let self = a.0 in let k = a.1.0 in let b = self.ref_ptr.0 in let o = self.ref_ptr.1 in let vs = mut_vals self in
    let y : W.Ghost = ((κs, qs, bounds, a, (vs, (uint_vals w32 k, tt))), tt) in
    let Ref = λ (κ' : List ℕ) (x : MutBor (List (List Hull))). (MutRef (named 0) κ' R).own_val x vs in
    let Slice = MutSlice (named 0) κ hull.the_row in
    let Two = Tuple (Slice ∷ Slice ∷ []) in
    let both = slice_range (concat_rows self.now) (place self.now (k - 1)) (place self.now (k + 1)) in
    qed 𝓛 (raw (on_entry 𝓛 f.signature κs qs a y.0.4) ∷ raw (fact 𝓤 (1 ≤ k)) ∷ raw (fact 𝓤 (k + 1 ≤ length self.now)) ∷ []) ∵
    move ! (1 ∷ []) $ heard ! _ (λ first. move ! (1 ∷ []) $ heard ! _ (λ last.
    use1 𝓛 ((‵ (flft κ q) ⊛ ‵ ftrue) ⊛ ‵ (Ref κ self) ⊛ ‵ (u32.own_val k (uint_vals w32 k)) ⊛ ‵ ftrue) (id⊢ 𝓤 _) $
    split ! $ split ! $ move ! (2 ∷ []) $ split ! $ keep ! (0 ∷ 2 ∷ []) $
    enter ! _ _ _ _ _ $ alloc_all ! (λ l. pass_all ! refl ((tt, tt), ((tt, record { fits = are.1.0.1 }), tt)) $
    sets ! (addr ! (through ! refl (stop !))) refl (tt, tt) $
    -- the width: self is lent again for the call
    lft_new ! tt (λ α. move ! (1 ∷ 2 ∷ []) $
    use2 𝓛 (later (some (λ (δ : ℕ). ‵ (Ref (α ∷ []) (record self { ghost_name = δ })) ⊛ ‵ (LentAgain R κ (α ∷ []) q self.ghost_name b o δ self.now))))
    (lends_again 𝓛 R (named 0) κ (α ∷ []) q self.ghost_name b o (named 0) self.now) $ await ! tt $ pick ! (λ δ. split ! $
    -- [the loan; what the lender keeps; the token of α; the locals]
    let W' = triple_of 𝓛 width.signature (width.spec 𝓛 𝓜.mem 𝓡.returns) in
    let x : W'.Ghost = (((α ∷ [], tt), (full_share, tt), tt, (record self { ghost_name = δ }, (k, tt)), (vs, (uint_vals w32 k, tt))), tt) in
    nothing ! $ owned ! u32 _ (uint_Makes 𝓛 w32) k _ (refl, are.1.0.1) $ join ! $ move ! (1 ∷ 0 ∷ []) $ join ! $
    nothing ! $ move ! (3 ∷ 0 ∷ []) $ join ! $ join ! $
    use0 𝓛 (raw (fact 𝓤 (k ≤ length self.now))) (fact_i 𝓤 _ (emp 𝓤) (omega (arith, last))) $ use0 𝓛 (raw (fact 𝓤 (1 ≤ k))) (fact_i 𝓤 _ (emp 𝓤) first) $
    move ! (2 ∷ 0 ∷ 1 ∷ []) $ use3 𝓛 (raw (W'.pre x)) (id⊢ 𝓤 _) $
    calls_at ! (framed 𝓤 𝓛.H 𝓜 (tables 𝓤 𝓛.H 𝓜 𝓡 𝓡.env)) W' (width_met 𝓤 𝓛 𝓜 𝓡 (code.calls-ts_bound::table::HullTable::width 𝓡.env wired)) x
    (and_then ! (get ! refl) (and_then ! (get ! refl) (no_more !))) (λ t.
    use1 𝓛 (later (some (λ (n : ℕ). ((‵ (flft (α ∷ []) full_share) ⊛ ‵ ftrue) ⊛ ‵ (usize.own_val n (t ∷ []))) ⊛
    some (λ (ws : List (List Hull) × (Unit {0} × Unit {0})). ‵ (lasts width.ended x.0.0 x.0.3 ws) ⊛ raw (fact 𝓤 (ws.0 ≡ self.now)) ⊛ raw
    (fact 𝓤 (place self.now (k - 1) + n ≡ place self.now k)))))) (id⊢ 𝓤 _) $
    await ! tt $ pick ! (λ n. split ! $ split ! $ split ! $ lft_end ! tt $ move ! (2 ∷ []) $ fsplit ! $ feq_l ! (λ is_n. flt_l ! (λ fits_n.
    lands_as ! (ap only is_n) refl (tt, record { fits = fits_n }) $
    move ! (2 ∷ []) $ pick ! (λ ws. split ! $ move ! (1 ∷ []) $ split ! $ heard ! _ (λ same. heard ! _ (λ wide. fsplit ! $ fsplit ! $
    rewrite ! 0 (λ (m : List (List Hull)). ‵ (fres δ (R.coded.code m))) same refl $
    -- [the loan's last value; its borrow; nothing; α is over; nothing; what the lender keeps; the locals]
    move ! (3 ∷ 5 ∷ 0 ∷ []) $ use3 𝓛 (later (‵ (Ref κ self) ⊛ ‵ (flft κ q)))
    (comes_back 𝓛 R (named 0) κ (α ∷ []) q self.ghost_name b o δ self.now self.now) $ await ! tt $ split ! $
    move ! (2 ∷ []) $ drop ! $ move ! (2 ∷ []) $ drop ! $ move ! (2 ∷ []) $ drop ! $
    sets ! (addr ! (through ! refl (stop !))) refl (tt, tt) $
    -- both rows as one: self is given up; [self; the token; the locals]
    let G = triple_of 𝓛 g.signature (g.spec 𝓛 𝓜.mem 𝓡.returns) in
    let z : G.Ghost = ((κs, qs, tt, (self, (k, tt)), (vs, (uint_vals w32 k, tt))), tt) in
    nothing ! $ owned ! u32 _ (uint_Makes 𝓛 w32) k _ (refl, are.1.0.1) $ join ! $ move ! (1 ∷ 0 ∷ []) $ join ! $
    nothing ! $ move ! (2 ∷ 0 ∷ []) $ join ! $ join ! $
    use0 𝓛 (raw (fact 𝓤 (k + 1 ≤ length self.now))) (fact_i 𝓤 _ (emp 𝓤) last) $ use0 𝓛 (raw (fact 𝓤 (1 ≤ k))) (fact_i 𝓤 _ (emp 𝓤) first) $
    move ! (2 ∷ 0 ∷ 1 ∷ []) $ use3 𝓛 (raw (G.pre z)) (id⊢ 𝓤 _) $
    calls_at ! (framed 𝓤 𝓛.H 𝓜 (tables 𝓤 𝓛.H 𝓜 𝓡 𝓡.env)) G (met 𝓤 𝓛 𝓜 𝓡 (code.calls-ts_bound::table::HullTable::both_mut 𝓡.env wired)) z
    (and_then ! (get ! refl) (and_then ! (get ! refl) (no_more !))) (λ v.
    use1 𝓛 (later (some (λ (r : MutBor (List Hull)). ((‵ (flft κ q) ⊛ ‵ ftrue) ⊛ ‵ (Slice.own_val r (v ∷ []))) ⊛
    some (λ (ws : Unit {0} × (Unit {0} × Unit {0})). ‵ (lasts g.ended κs z.0.3 ws) ⊛ ‵ (LendsRow self k r) ⊛ raw (fact 𝓤 (r.now ≡ both)))))) (id⊢ 𝓤 _) $
    await ! tt $ pick ! (λ r. split ! $ split ! $ split ! $
    -- [the token; nothing; the slice; what the call says; the locals]
    move ! (3 ∷ []) $ pick ! (λ ws. split ! $ drop ! $ split ! $ move ! (1 ∷ []) $ heard ! _ (λ value.
    -- [the slice follows; the token; nothing; the slice; the locals]
    move ! (3 ∷ []) $ peeks ! Slice _ (shows 𝓛 Slice) r (v ∷ []) (λ is.
    lands_as ! refl refl ((mut_slice_Lawful 𝓛 (named 0) κ hull.the_row).typed r (v ∷ []) is).0 $
    -- [the slice; the slice follows; the token; nothing; the locals]
    let G' = triple_of 𝓛 h.signature (h.spec 𝓛 𝓜.mem 𝓡.returns) in
    let z' : G'.Ghost = ((κs, qs, tt, (r, (n, tt)), (v ∷ [], (uint_vals w64 n, tt))), tt) in
    nothing ! $ owned ! usize _ (uint_Makes 𝓛 w64) n _ (refl, fits_n) $ join ! $ move ! (1 ∷ 0 ∷ []) $ join ! $
    move ! (2 ∷ 3 ∷ 0 ∷ []) $ join ! $ join ! $
    use0 𝓛 (raw (fact 𝓤 (n ≤ length r.now))) (fact_i 𝓤 _ (emp 𝓤) (cut_inside self.now k n r.now first wide value)) $
    move ! (1 ∷ 0 ∷ []) $ use2 𝓛 (raw (G'.pre z')) (id⊢ 𝓤 _) $
    calls_at ! (framed 𝓤 𝓛.H 𝓜 (tables 𝓤 𝓛.H 𝓜 𝓡 𝓡.env)) G' (cut_met 𝓤 𝓛 𝓜 𝓡 (code.calls-ts_bound::table::cut 𝓡.env wired)) z'
    (and_then ! (get ! refl) (and_then ! (get ! refl) (no_more !))) (λ u.
    use1 𝓛 (later (some (λ (p : MutBor (List Hull) × MutBor (List Hull)). ((‵ (flft κ q) ⊛ ‵ ftrue) ⊛ ‵ (Two.own_val p (u ∷ []))) ⊛
    some (λ (ws : Unit {0} × (Unit {0} × Unit {0})). ‵ (lasts h.ended κs z'.0.3 ws) ⊛ ‵ (LendsParts r p) ⊛ raw (fact 𝓤 (p.0.now ≡ take n r.now)) ⊛ raw
    (fact 𝓤 (p.1.now ≡ drop_l n r.now)))))) (id⊢ 𝓤 _) $
    await ! tt $ pick ! (λ p. split ! $ split ! $ split ! $
    -- [the token; nothing; the two slices; what the call says; the slice follows; the locals]
    move ! (3 ∷ []) $ pick ! (λ ws'. split ! $ drop ! $ split ! $ move ! (1 ∷ []) $ split ! $ heard ! _ (λ front. heard ! _ (λ back.
    -- [the two follow; the token; nothing; the two slices; the slice follows; the locals]
    move ! (4 ∷ 0 ∷ []) $ use2 𝓛 (‵ (LendsTwo self k p)) (both_then 𝓛 R (Array hull.the_row 0) (Array hull.the_row 0) (Array hull.the_row 0)
    (with_written self.now (k - 1)) ◌++◌ self.ghost_name r.ghost_name p.0.ghost_name p.1.ghost_name) $
    move ! (3 ∷ []) $ peeks ! Two _ (shows 𝓛 Two) p (u ∷ []) (λ are_two.
    lands_as ! refl refl ((Struct-Lawful 𝓛 (shape (tuple_type (Slice ∷ Slice ∷ [])))
    (mut_slice_Lawful 𝓛 (named 0) κ hull.the_row, (mut_slice_Lawful 𝓛 (named 0) κ hull.the_row, tt))).typed (p.0, (p.1, tt)) (u ∷ []) are_two).0 $
    returns ! (look_at ! 0 refl) $ free_all ! refl $
    -- [the two slices; they follow; the token; nothing]
    suffices ! _ (ends_at 𝓛 f.ended stayed c y u p (tt, (tt, tt)) (tt, (tt, tt))) $
    move ! (2 ∷ 3 ∷ []) $ join ! $ nothing ! $ nothing ! $ join ! $ nothing ! $ join ! $ move ! (1 ∷ 0 ∷ []) $ group ! 3 $ frame ! $ frame ! $
    use0 𝓛 (raw (fact 𝓤 (p.1.now ≡ row_at (k + 1) self.now)))
    (fact_i 𝓤 _ (emp 𝓤) (sym (row_after_at self.now k n r.now p.1.now first last wide value back))) $
    use0 𝓛 (raw (fact 𝓤 (p.0.now ≡ row_at k self.now))) (fact_i 𝓤 _ (emp 𝓤) (sym (row_before self.now k n r.now p.0.now first last wide value front)))
    $ done !))))))))))))))))))))))))
