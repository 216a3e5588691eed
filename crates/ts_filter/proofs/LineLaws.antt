-- A certificate is accepted exactly where its lines keep their rules one after another; the first that doesn't is one.
use Rattle.std.proofs.Common.{◌≡◌, ℕ, zero, suc, ℤ, List, [], ◌∷◌, ◌++◌, map, length, Some, None, refl, sym, ◌∙◌, ap, subst, arith, append_assoc, append-nil}
use Rattle.ts_certificate.specs.declared.certificate.TreeLine.{TreeLine}
use Rattle.ts_certificate.specs.Certificate.{Cert, cert_lines, end_line}
use Rattle.ts_certificate.specs.Grammar.{CertLine, SaysSeries, SaysTree, series_count}
use Rattle.ts_model.specs.ModelParts.{ModelParts}
use Rattle.ts_filter.specs.Accepts.{AllFit, AllReported, HasTree, Accepts}
use Rattle.ts_filter.specs.Boxes.{Box}
use Rattle.ts_filter.specs.Laws.{AcceptedIsKept, OneFirstFailing, FailingIsRejected, LinesGoOn, WholeIsJudged}
use Rattle.ts_filter.specs.Lines.{Stand, first_stand, KeepsLine, stand_after, Leads, FailsAt}
use Rattle.ts_filter.specs.RefutedWorseDrop.{Spans}
use Rattle.ts_filter.specs.Rules.{Head, head_of}
use Rattle.ts_filter.specs.Steps.{made_by, Steps}
use Rattle.ts_filter.specs.Tree.{reported_by, reported_after}
use Rattle.ts_filter.proofs.TreeLaws.{to_steps, tree_is_steps}

abbrev stand : Head → List (List ℤ) → List Box → ℕ → Stand
stand h series w told = record { aim = Some h.aim; claim = Some h.claim; series = series; waiting = w; reported = told }

module _ (m : ModelParts) (s : Spans) where
  leads_append : (t u v : Stand) (ls ms : List CertLine) → Leads m s t ls u → Leads m s u ms v → Leads m s t (ls ++ ms) v
  leads_append t u v [] ms r q = subst (λ z. Leads m s z ms v) (sym r) q
  leads_append t u v (l ∷ ls) ms r q = (r.0, leads_append (stand_after t l) u v ls ms r.1 q)

  leads_middle : (t v : Stand) (ls ms : List CertLine) → Leads m s t (ls ++ ms) v → (u : Stand) × Leads m s t ls u × Leads m s u ms v
  leads_middle t v [] ms r = (t, refl, r)
  leads_middle t v (l ∷ ls) ms r = let k = leads_middle (stand_after t l) v ls ms r.1 in (k.0, (r.0, k.1), k.2)

  pub fails_once : (t : Stand) (ls : List CertLine) (k n : ℕ) → FailsAt m s t ls k → FailsAt m s t ls n → k ≡ n
  fails_once t [] k n p q = absurd p
  fails_once t (l ∷ ls) zero n p q = absurd p
  fails_once t (l ∷ ls) (suc k) zero p q = absurd q
  fails_once t (l ∷ ls) (suc zero) (suc zero) p q = refl
  fails_once t (l ∷ ls) (suc zero) (suc (suc n)) p q = absurd (p q.0)
  fails_once t (l ∷ ls) (suc (suc k)) (suc zero) p q = absurd (q p.0)
  fails_once t (l ∷ ls) (suc (suc k)) (suc (suc n)) p q = ap suc (fails_once (stand_after t l) ls (suc k) (suc n) p.1 q.1)

  fails_more : (t : Stand) (ls ms : List CertLine) (n : ℕ) → FailsAt m s t ls n → FailsAt m s t (ls ++ ms) n
  fails_more t [] ms n p = absurd p
  fails_more t (l ∷ ls) ms zero p = p
  fails_more t (l ∷ ls) ms (suc zero) p = p
  fails_more t (l ∷ ls) ms (suc (suc n)) p = (p.0, fails_more (stand_after t l) ls ms (suc n) p.1)

  pub fails_not_leads : (t u : Stand) (ls : List CertLine) (n : ℕ) → FailsAt m s t ls n → Leads m s t ls u → ⊥
  fails_not_leads t u [] n p r = p
  fails_not_leads t u (l ∷ ls) zero p r = p
  fails_not_leads t u (l ∷ ls) (suc zero) p r = p r.0
  fails_not_leads t u (l ∷ ls) (suc (suc n)) p r = fails_not_leads (stand_after t l) u ls (suc n) p.1 r.1

  fails_last : (t u : Stand) (ls : List CertLine) (l : CertLine) → Leads m s t ls u → (KeepsLine m s u l → ⊥) → FailsAt m s t (ls ++ l ∷ []) (suc (length ls))
  fails_last t u [] l r n = λ k. n (subst (λ z. KeepsLine m s z l) r k)
  fails_last t u (k ∷ ls) l r n = (r.0, fails_last (stand_after t k) u ls l r.1 n)

  -- the tree lines
  steps_lead : (h : Head) (ls : List TreeLine) (told : ℕ) (w left : List Box) (after : ℕ) → Steps m s h w told ls left after →
      Leads m s (stand h h.series w told) (map SaysTree ls) (stand h h.series left after)
  steps_lead h [] told w left after f = ap (λ z. stand h h.series z told) f.0 ∙ ap (λ z. stand h h.series left z) f.1
  steps_lead h (l ∷ ls) told [] left after f = absurd f
  steps_lead h (l ∷ ls) told (b ∷ w) left after f = (f.0, steps_lead h ls (reported_by l told) (made_by l b ++ w) left after f.1)

  record LedTo (h : Head) (w : List Box) (told : ℕ) (ls : List TreeLine) (t : Stand) : Type 0 where
    left : List Box
    after : ℕ
    steps : Steps m s h w told ls left after
    is : stand h h.series left after ≡ t

  lead_steps : (h : Head) (ls : List TreeLine) (told : ℕ) (w : List Box) (t : Stand) → Leads m s (stand h h.series w told) (map SaysTree ls) t →
      LedTo h w told ls t
  lead_steps h [] told w t r = record { left = w; after = told; steps = (refl, refl); is = r }
  lead_steps h (l ∷ ls) told [] t r = absurd r.0
  lead_steps h (l ∷ ls) told (b ∷ w) t r =
      let k = lead_steps h ls (reported_by l told) (made_by l b ++ w) t r.1 in
      record { left = k.left; after = k.after; steps = (r.0, k.steps); is = k.is }

  -- the series lines
  series_lead : (h : Head) (w : List Box) (told : ℕ) (xs done : List (List ℤ)) → AllFit m h.claim done xs →
      Leads m s (stand h done w told) (map SaysSeries xs) (stand h (done ++ xs) w told)
  series_lead h w told [] done k = ap (λ z. stand h z w told) (sym (append-nil done))
  series_lead h w told (x ∷ xs) done k = (
    k.0,
    subst (λ z. Leads m s (stand h (done ++ x ∷ []) w told) (map SaysSeries xs) (stand h z w told)) (append_assoc done (x ∷ []) xs)
        (series_lead h w told xs (done ++ x ∷ []) k.1),
  )

  lead_series : (h : Head) (w : List Box) (told : ℕ) (xs done : List (List ℤ)) (t : Stand) → Leads m s (stand h done w told) (map SaysSeries xs) t →
      AllFit m h.claim done xs × (stand h (done ++ xs) w told ≡ t)
  lead_series h w told [] done t r = (tt, ap (λ z. stand h z w told) (append-nil done) ∙ r)
  lead_series h w told (x ∷ xs) done t r =
      let k = lead_series h w told xs (done ++ x ∷ []) t r.1 in
      ((r.0, k.0), ap (λ z. stand h z w told) (sym (append_assoc done (x ∷ []) xs)) ∙ k.1)

  accepted_leads : (c : Cert) → Accepts m s c → (t : Stand) × Leads m s (first_stand m) (cert_lines c) t
  accepted_leads c a =
      let h = head_of c in
      let after = reported_after a.tree.tree 0 in
      let end = stand h c.series [] after in
      let tree : Steps m s h (m.cells ∷ []) 0 c.tree [] after =
      subst (λ z. Steps m s h (m.cells ∷ []) 0 z [] after) a.tree.lines (to_steps m s h m.cells a.tree.tree a.tree.fits) in (
        end,
        (
          a.aim,
          (
            a.claim,
            leads_append (stand h [] (m.cells ∷ []) 0) (stand h c.series (m.cells ∷ []) 0) end (map SaysSeries c.series)
                (map SaysTree c.tree ++ end_line c.tree ∷ []) (series_lead h (m.cells ∷ []) 0 c.series [] a.series)
                (leads_append (stand h c.series (m.cells ∷ []) 0) end end (map SaysTree c.tree) (end_line c.tree ∷ [])
                (steps_lead h c.tree 0 (m.cells ∷ []) [] after tree) ((refl, a.tree.reported), refl)),
          ),
        ),
      )

  leads_from : (t u v : Stand) (ls : List CertLine) → t ≡ u → Leads m s u ls v → Leads m s t ls v
  leads_from t u v ls e r = subst (λ z. Leads m s z ls v) (sym e) r

  end_kept : (c : Cert) (w : List Box) (told : ℕ) (t v : Stand) → stand (head_of c) c.series w told ≡ t → Leads m s t (end_line c.tree ∷ []) v →
      (w ≡ []) × AllReported c.aim told (length c.series)
  end_kept c w told t v e r = (leads_from (stand (head_of c) c.series w told) t v (end_line c.tree ∷ []) e r).0

  leads_accepted : (c : Cert) (v : Stand) → length c.series ≡ series_count c.claim → Leads m s (first_stand m) (cert_lines c) v → Accepts m s c
  leads_accepted c v n r =
      let h = head_of c in
      let rest = map SaysTree c.tree ++ end_line c.tree ∷ [] in
      let a = leads_middle (stand h [] (m.cells ∷ []) 0) v (map SaysSeries c.series) rest r.1.1 in
      let k = lead_series h (m.cells ∷ []) 0 c.series [] a.0 a.1 in
      let q = leads_middle (stand h c.series (m.cells ∷ []) 0) v (map SaysTree c.tree) (end_line c.tree ∷ [])
      (leads_from (stand h c.series (m.cells ∷ []) 0) a.0 v rest k.1 a.2) in
      let d = lead_steps h c.tree 0 (m.cells ∷ []) q.0 q.1 in
      let e = end_kept c d.left d.after q.0 v d.is q.2 in
      record { aim = r.0; claim = r.1.0; count = n; series = k.0; tree = tree d.left d.after d.steps e.0 e.1 }
    where
      tree : (left : List Box) (after : ℕ) → Steps m s (head_of c) (m.cells ∷ []) 0 c.tree left after → left ≡ [] → AllReported c.aim after (length c.series) →
          HasTree m s c
      tree left after st none end =
          let f = (tree_is_steps m s (head_of c) m.cells c.tree after).1 (subst (λ z. Steps m s (head_of c) (m.cells ∷ []) 0 c.tree z after) none st) in
          record { tree = f.0; lines = f.1; fits = f.2; reported = subst (λ z. AllReported c.aim z (length c.series)) (sym f.3) end }

pub accepted_is_kept : AcceptedIsKept
accepted_is_kept m s c n = (λ a. accepted_leads m s c a, λ r. leads_accepted m s c r.0 n r.1)

pub one_first_failing : OneFirstFailing
one_first_failing m s c k n p q = fails_once m s (first_stand m) (cert_lines c) k n p q

pub failing_is_rejected : FailingIsRejected
failing_is_rejected m s c n p a = let r = accepted_leads m s c a in fails_not_leads m s (first_stand m) r.0 (cert_lines c) n p r.1

pub lines_go_on : LinesGoOn
lines_go_on m s ls l = record {
  keeps = λ t r k. leads_append m s (first_stand m) t (stand_after t l) ls (l ∷ []) r (k, refl);
  breaks = λ t u r n. subst (λ k. FailsAt m s (first_stand m) (ls ++ l ∷ []) k) (omega arith) (fails_last m s (first_stand m) t ls l r n);
  broken = λ t u n p. fails_more m s (first_stand m) ls (l ∷ []) n p;
}

pub whole_is_judged : WholeIsJudged
whole_is_judged m s c t None n f = leads_accepted m s c t n f
whole_is_judged m s c t (Some k) n f = (f, λ a. failing_is_rejected m s c k f a)
