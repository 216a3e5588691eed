-- What each kind of move does to the registers, and the step from cell k to cell k + 1: the glued value is the same at
-- both.
use Rattle.std.specs.Prelude.{◌≡◌, ℕ, zero, suc, Bool, true, false, ◌&&◌, ◌||◌, refl}
use Rattle.std.proofs.Common.{sym, ◌∙◌, ap, subst, ⊎_elim}
use Rattle.std.proofs.lemmas.Bool.{and_parts, or_cases}
use Rattle.ts_base.specs.declared.range.Kind.{Kind}
use Rattle.ts_base.specs.declared.range.Kind.TheVariants.{Idle, Pending, Held}
use Rattle.ts_transducer.specs.declared.row.Phase.{Phase}
use Rattle.ts_transducer.specs.declared.row.Phase.TheVariants.{Out, OutR, OutA, MaybeB, MaybeA, Found, FoundE, Inside}
use Rattle.ts_decorate.specs.Operators.{with_all}
use Rattle.ts_compile.proofs.Rules.{Move, Out_idle, Out_pending, OutR_idle, OutR_pending, OutA_idle, OutA_pending, MaybeB_idle, MaybeB_pending, MaybeA_held, Found_idle, Found_pending, FoundE_idle_idle, FoundE_idle_pending, FoundE_pending_idle, FoundE_pending_pending, Inside_held, impossible, keeps, closes, completes, extends, hands_over, begins, stands_alone, goes_on, grows, fits}
use Rattle.ts_compile.proofs.Facts.{State, Ops, half_of, total, moved, HalfLaws, GlueLaws, opened, Kept, Good, glued}

module _ {P E : Type 0} (o : Ops P E) (joined : P → P → P → P) (Part : P → Type 0) (Folded : P → P → Type 0)
    (laws : GlueLaws o joined Part Folded) where
  abbrev half : HalfLaws (half_of o) joined Part Folded
  half = laws.half

  abbrev Fine : ℕ → Kind → State P E → P → Type 0
  Fine a k s p = Good o Part Folded a k s p

  pub g_right : (u : E) → o.g u o.default ≡ u
  g_right u = laws.g_comm u o.default ∙ laws.g_left u

  right : (u : P) → Part u → o.phi u o.neutral ≡ u
  right u h = half.comm u o.neutral h half.neutral_part ∙ half.left u h

  idle_settled : (c : P) (r : E) → c ≡ o.idle → o.g r (o.read c) ≡ r
  idle_settled c r h = ap (λ z. o.g r (o.read z)) h ∙ ap (o.g r) laws.idle_read ∙ g_right r

  newly : (a : ℕ) (d p q : P) → Part d → Part p → Part q →
      let c = with_all (half_of o) a d p q in Part c × Part o.neutral × Kept Folded a (o.phi c o.neutral) q
  newly zero d p q i ip iq =
      let u = half.phi_part d p i ip in
      let v = half.phi_part (o.phi d p) q u iq in
      (v, half.neutral_part, subst (λ z. Folded z q) (sym (right (o.phi (o.phi d p) q) v)) (half.folds (o.phi d p) q u iq))
  newly (suc n) d p q i ip iq = (half.phi_part d p i ip, half.neutral_part, tt)

  -- every well typed move keeps the facts on registers
  pub good_step : (a : ℕ) {k : Kind} {f : Phase} {l : Kind} (s : State P E) (p q : P) → Move k f l → Part p → Part q → Fine a k s p →
      Fine a l (moved o a f s p q) q
  good_step a s p q Out_idle ip iq h = h
  good_step a s p q Out_pending ip iq h = (h.0, subst Part (sym h.1) half.neutral_part)
  good_step a s p q OutR_idle ip iq h = (h.0, refl)
  good_step a s p q OutR_pending ip iq h = (h.0, half.neutral_part)
  good_step a s p q OutA_idle ip iq h = (refl, refl)
  good_step a s p q OutA_pending ip iq h = (refl, half.neutral_part)
  good_step a s p q MaybeB_idle ip iq h = (h.0, half.phi_part s.d p (subst Part (sym h.1) half.neutral_part) ip)
  good_step a s p q MaybeB_pending ip iq h = (h.0, half.phi_part s.d p h.1 ip)
  good_step zero s p q MaybeA_held ip iq h =
      let w = half.phi_part s.c s.d h.0 h.1 in
      (h.0, half.phi_part s.d q h.1 iq, subst (λ u. Folded u q) (half.assoc s.c s.d q h.0 h.1 iq) (half.folds (o.phi s.c s.d) q w iq))
  good_step (suc n) s p q MaybeA_held ip iq h = (h.0, half.phi_part s.d p h.1 ip, tt)
  good_step a s p q Found_idle ip iq h = newly a s.d p q (subst Part (sym h.1) half.neutral_part) ip iq
  good_step a s p q Found_pending ip iq h = newly a s.d p q h.1 ip iq
  good_step a s p q FoundE_idle_idle ip iq h = (h.0, refl)
  good_step a s p q FoundE_idle_pending ip iq h = (h.0, half.neutral_part)
  good_step a s p q FoundE_pending_idle ip iq h = (h.0, refl)
  good_step a s p q FoundE_pending_pending ip iq h = (h.0, half.neutral_part)
  good_step zero s p q Inside_held ip iq h =
      let u = half.phi_part s.d q h.1 iq in
      let v = half.phi_part s.c (o.phi s.d q) h.0 u in
      let w = half.phi_part s.c s.d h.0 h.1 in
      let e = half.assoc s.c s.d q h.0 h.1 iq ∙ sym (right (o.phi s.c (o.phi s.d q)) v) in
      (v, half.neutral_part, subst (λ z. Folded z q) e (half.folds (o.phi s.c s.d) q w iq))
  good_step (suc n) s p q Inside_held ip iq h = (half.phi_part s.c (o.phi s.d p) h.0 (half.phi_part s.d p h.1 ip), half.neutral_part, tt)

  pub opened_part : (a : ℕ) (k : Kind) (s : State P E) (p : P) → Fine a k s p → Part (opened o k s)
  opened_part a Idle s p h = subst Part (sym h.1) half.neutral_part
  opened_part a Pending s p h = h.1
  opened_part a Held s p h = half.phi_part s.c s.d h.0 h.1

  kept : (k : Kind) (s : State P E) (p : P) → k ≡ Held → Fine 0 k s p → Folded (opened o k s) p
  kept Idle s p e h = absurd (let z : ⊥ = cc in z)
  kept Pending s p e h = absurd (let z : ⊥ = cc in z)
  kept Held s p e h = h.2

  -- what each kind of move does, whatever an occurrence leaves out at its end
  keeps_same : (a : ℕ) (f : Phase) (s : State P E) (p q : P) → keeps f ≡ true → total o (moved o a f s p q) ≡ total o s
  keeps_same a Out s p q h = refl
  keeps_same a OutR s p q h = refl
  keeps_same a OutA s p q h = idle_settled o.idle (total o s) refl
  keeps_same a MaybeB s p q h = refl
  keeps_same a MaybeA s p q h = refl
  keeps_same a Found s p q h = impossible h
  keeps_same a FoundE s p q h = impossible h
  keeps_same a Inside s p q h = impossible h

  -- where it leaves its last cell out
  closes_is : (n : ℕ) {k : Kind} {f : Phase} {l : Kind} (s : State P E) (p q : P) → Move k f l → Fine (suc n) k s p → closes f ≡ true →
      let t = moved o (suc n) f s p q in (t.r ≡ total o s) × (opened o l t ≡ o.neutral)
  closes_is n s p q Out_idle h c = (sym (idle_settled s.c s.r h.0), h.1)
  closes_is n s p q Out_pending h c = (sym (idle_settled s.c s.r h.0), h.1)
  closes_is n s p q OutR_idle h c = (sym (idle_settled s.c s.r h.0), refl)
  closes_is n s p q OutR_pending h c = (sym (idle_settled s.c s.r h.0), refl)
  closes_is n s p q OutA_idle h c = (refl, refl)
  closes_is n s p q OutA_pending h c = (refl, refl)
  closes_is n s p q t h c = impossible c

  completes_is : (n : ℕ) {k : Kind} {f : Phase} {l : Kind} (s : State P E) (p q : P) → Move k f l → Part p → Fine (suc n) k s p →
      completes f ≡ true →
      total o (moved o (suc n) f s p q) ≡ o.g s.r (o.read (o.phi (opened o k s) p))
  completes_is n s p q Found_idle ip h c = refl
  completes_is n s p q Found_pending ip h c = refl
  completes_is n s p q FoundE_idle_idle ip h c = idle_settled s.c _ h.0
  completes_is n s p q FoundE_idle_pending ip h c = idle_settled s.c _ h.0
  completes_is n s p q FoundE_pending_idle ip h c = idle_settled s.c _ h.0
  completes_is n s p q FoundE_pending_pending ip h c = idle_settled s.c _ h.0
  completes_is n s p q Inside_held ip h c = ap (λ z. o.g s.r (o.read z)) (sym (half.assoc s.c s.d p h.0 h.1 ip))
  completes_is n s p q t ip h c = impossible c

  extends_is : (n : ℕ) {k : Kind} {f : Phase} {l : Kind} (s : State P E) (p q : P) → Move k f l → Part p → Fine (suc n) k s p → extends f ≡ true →
      let t = moved o (suc n) f s p q in (t.r ≡ s.r) × (opened o l t ≡ o.phi (opened o k s) p)
  extends_is n s p q MaybeB_idle ip h c = (refl, refl)
  extends_is n s p q MaybeB_pending ip h c = (refl, refl)
  extends_is n s p q MaybeA_held ip h c = (refl, sym (half.assoc s.c s.d p h.0 h.1 ip))
  extends_is n s p q Found_idle ip h c = (refl, right (o.phi s.d p) (half.phi_part s.d p (subst Part (sym h.1) half.neutral_part) ip))
  extends_is n s p q Found_pending ip h c = (refl, right (o.phi s.d p) (half.phi_part s.d p h.1 ip))
  extends_is n s p q Inside_held ip h c =
      (refl, right (o.phi s.c (o.phi s.d p)) (half.phi_part s.c (o.phi s.d p) h.0 (half.phi_part s.d p h.1 ip)) ∙ sym (half.assoc s.c s.d p h.0 h.1 ip))
  extends_is n s p q t ip h c = impossible c

  hands_over_is : (n : ℕ) {k : Kind} {f : Phase} {l : Kind} (s : State P E) (p q : P) → Move k f l → hands_over f ≡ true →
      let t = moved o (suc n) f s p q in (t.r ≡ o.g s.r (o.read (o.phi (opened o k s) p))) × (opened o l t ≡ o.neutral)
  hands_over_is n s p q FoundE_idle_idle c = (refl, refl)
  hands_over_is n s p q FoundE_idle_pending c = (refl, refl)
  hands_over_is n s p q FoundE_pending_idle c = (refl, refl)
  hands_over_is n s p q FoundE_pending_pending c = (refl, refl)
  hands_over_is n s p q t c = impossible c

  -- where it keeps its last cell
  begins_is : {k : Kind} {f : Phase} {l : Kind} (s : State P E) (p q : P) → Move k f l → Part p → Part q → Fine 0 k s p → begins k f ≡ true →
      let t = moved o 0 f s p q in
      (l ≡ Held) × (s.r ≡ total o s) × (t.r ≡ s.r) × (opened o l t ≡ o.phi p q) × (total o t ≡ o.g s.r (o.read (o.phi p q)))
  begins_is s p q Found_idle ip iq h c =
      let e : o.phi (o.phi s.d p) q ≡ o.phi p q = ap (λ z. o.phi (o.phi z p) q) h.1 ∙ ap (λ z. o.phi z q) (half.left p ip) in
      (refl, sym (idle_settled s.c s.r h.0), refl, ap (λ z. o.phi z o.neutral) e ∙ right (o.phi p q) (half.phi_part p q ip iq), ap (λ z. o.g s.r (o.read z)) e)
  begins_is s p q t ip iq h c = impossible c

  stands_alone_is : {k : Kind} {f : Phase} {l : Kind} (s : State P E) (p q : P) → Move k f l → Part p → Fine 0 k s p → stands_alone k f ≡ true →
      (s.r ≡ total o s) × (total o (moved o 0 f s p q) ≡ o.g s.r (o.read (o.phi p q)))
  stands_alone_is s p q FoundE_idle_idle ip h c =
      let e : o.phi (o.phi s.d p) q ≡ o.phi p q = ap (λ z. o.phi (o.phi z p) q) h.1 ∙ ap (λ z. o.phi z q) (half.left p ip) in
      (sym (idle_settled s.c s.r h.0), idle_settled s.c _ h.0 ∙ ap (λ z. o.g s.r (o.read z)) e)
  stands_alone_is s p q FoundE_idle_pending ip h c =
      let e : o.phi (o.phi s.d p) q ≡ o.phi p q = ap (λ z. o.phi (o.phi z p) q) h.1 ∙ ap (λ z. o.phi z q) (half.left p ip) in
      (sym (idle_settled s.c s.r h.0), idle_settled s.c _ h.0 ∙ ap (λ z. o.g s.r (o.read z)) e)
  stands_alone_is s p q t ip h c = impossible c

  grows_is : {k : Kind} {f : Phase} {l : Kind} (s : State P E) (p q : P) → Move k f l → Part q → Fine 0 k s p → grows f ≡ true →
      let t = moved o 0 f s p q in (k ≡ Held) × (l ≡ Held) × (t.r ≡ s.r) × (opened o l t ≡ o.phi (opened o k s) q)
  grows_is s p q MaybeA_held iq h c = (refl, refl, refl, sym (half.assoc s.c s.d q h.0 h.1 iq))
  grows_is s p q Inside_held iq h c =
      let v = half.phi_part s.c (o.phi s.d q) h.0 (half.phi_part s.d q h.1 iq) in
      (refl, refl, refl, right (o.phi s.c (o.phi s.d q)) v ∙ sym (half.assoc s.c s.d q h.0 h.1 iq))
  grows_is s p q t iq h c = impossible c

  goes_on_is : {k : Kind} {f : Phase} {l : Kind} (s : State P E) (p q : P) → Move k f l → Part q → Fine 0 k s p → goes_on f ≡ true →
      (k ≡ Held) × (total o (moved o 0 f s p q) ≡ o.g s.r (o.read (o.phi (opened o k s) q)))
  goes_on_is s p q Inside_held iq h c = (refl, ap (λ z. o.g s.r (o.read z)) (sym (half.assoc s.c s.d q h.0 h.1 iq)))
  goes_on_is s p q t iq h c = impossible c

  -- the algebra: s is C and R together, r is R, w is what is open; f of the forward run, b of the reverse run; an apostrophe
  -- stands for after the move

  still : (sf sf' sb sb' : E) → sf' ≡ sf → sb' ≡ sb → o.g sf sb' ≡ o.g sf' sb
  still sf sf' sb sb' e h = cc

  begin : (sf sb' rf' rb : E) (wf' wb q : P) → Part q → Part wb → rf' ≡ sf → wf' ≡ o.neutral → sb' ≡ o.g rb (o.read (o.phi wb q)) →
      o.g sf sb' ≡ o.g (o.g rf' rb) (o.read (o.phi (o.phi wf' q) wb))
  begin sf sb' rf' rb wf' wb q iq iw e h j =
      let a = half.comm wb q iw iq in
      let b = half.left q iq in
      let c = laws.g_assoc sf rb (o.read (o.phi wb q)) in
      cc (a, b, c)

  end : (sf' sb rf rb' : E) (wf wb' p : P) → Part p → Part wf → rb' ≡ sb → wb' ≡ o.neutral → sf' ≡ o.g rf (o.read (o.phi wf p)) →
      o.g (o.g rf rb') (o.read (o.phi (o.phi wf p) wb')) ≡ o.g sf' sb
  end sf' sb rf rb' wf wb' p ip iw e h j =
      let x = o.read (o.phi wf p) in
      let a = right (o.phi wf p) (half.phi_part wf p iw ip) in
      let b = laws.g_assoc rf sb x in
      let c = laws.g_comm sb x in
      let d = laws.g_assoc rf x sb in
      cc (a, b, c, d)

  inside : (rf rf' rb rb' : E) (wf wf' wb wb' p q : P) → Part p → Part q → Part wf → Part wb →
      rf' ≡ rf → wf' ≡ o.phi wf p → rb' ≡ rb → wb' ≡ o.phi wb q →
      o.g (o.g rf rb') (o.read (o.phi (o.phi wf p) wb')) ≡ o.g (o.g rf' rb) (o.read (o.phi (o.phi wf' q) wb))
  inside rf rf' rb rb' wf wf' wb wb' p q ip iq iw iv e h j k =
      let a = half.comm wb q iv iq in
      let b = half.assoc (o.phi wf p) q wb (half.phi_part wf p iw ip) iq iv in
      cc (a, b)

  meet : (rf rf' rb rb' : E) (wf wf' wb wb' p q : P) → Part p → Part q → Part wf → Part wb → rf' ≡ o.g rf (o.read (o.phi wf p)) → wf' ≡ o.neutral →
      rb' ≡ o.g rb (o.read (o.phi wb q)) → wb' ≡ o.neutral →
      o.g (o.g rf rb') (o.read (o.phi (o.phi wf p) wb')) ≡ o.g (o.g rf' rb) (o.read (o.phi (o.phi wf' q) wb))
  meet rf rf' rb rb' wf wf' wb wb' p q ip iq iw iv e h j k =
      let u = o.phi wf p in
      let x = o.read (o.phi wb q) in
      let y = o.read u in
      let a = half.comm wb q iv iq in
      let b = half.left q iq in
      let c = right u (half.phi_part wf p iw ip) in
      let d = laws.g_assoc rf (o.g rb x) y in
      let f = laws.g_comm (o.g rb x) y in
      let i = laws.g_assoc y rb x in
      let l = laws.g_assoc rf (o.g y rb) x in
      let m = laws.g_assoc rf y rb in
      cc (a, b, c, d, f, i, l, m)

  -- where an occurrence keeps its last cell
  alone : (sf sf' sb sb' rf rb : E) (p q : P) → Part p → Part q → rf ≡ sf → rb ≡ sb →
      sf' ≡ o.g rf (o.read (o.phi p q)) → sb' ≡ o.g rb (o.read (o.phi q p)) →
      o.g sf sb' ≡ o.g sf' sb
  alone sf sf' sb sb' rf rb p q ip iq e h j k =
      let x = o.read (o.phi p q) in
      let a = half.comm p q ip iq in
      let b = laws.g_comm rb x in
      let c = laws.g_assoc rf x rb in
      cc (a, b, c)

  begin_both : (sf sb' rf' rb : E) (wf' wb p q : P) → Part p → Part q → Part wb → Folded wb q →
      rf' ≡ sf → wf' ≡ o.phi p q → sb' ≡ o.g rb (o.read (o.phi wb p)) →
      o.g sf sb' ≡ o.g (o.g rf' rb) (o.read (joined wf' wb q))
  begin_both sf sb' rf' rb wf' wb p q ip iq iw fo e h j =
      let a = half.takes p wb q ip iw iq fo in
      let b = half.comm wb p iw ip in
      let c = laws.g_assoc sf rb (o.read (o.phi wb p)) in
      cc (a, b, c)

  end_both : (sf' sb rf rb' : E) (wf wb' p q : P) → Part p → Part q → Part wf → Folded wf p →
      rb' ≡ sb → wb' ≡ o.phi q p → sf' ≡ o.g rf (o.read (o.phi wf q)) →
      o.g (o.g rf rb') (o.read (joined wf wb' p)) ≡ o.g sf' sb
  end_both sf' sb rf rb' wf wb' p q ip iq iw fo e h j =
      let x = o.read (o.phi wf q) in
      let a = half.gives wf q p iw iq ip fo in
      let b = laws.g_assoc rf sb x in
      let c = laws.g_comm sb x in
      let d = laws.g_assoc rf x sb in
      cc (a, b, c, d)

  inside_both : (rf rf' rb rb' : E) (wf wf' wb wb' p q : P) → Part p → Part q → Part wf → Part wb → Folded wf p → Folded wb q → rf' ≡ rf →
      wf' ≡ o.phi wf q → rb' ≡ rb → wb' ≡ o.phi wb p →
      o.g (o.g rf rb') (o.read (joined wf wb' p)) ≡ o.g (o.g rf' rb) (o.read (joined wf' wb q))
  inside_both rf rf' rb rb' wf wf' wb wb' p q ip iq iw iv fo fi e h j k =
      let a = half.gives wf wb p iw iv ip fo in
      let b = half.takes wf wb q iw iv iq fi in
      cc (a, b)

  -- no occurrence goes on over either cell: neither run finds one
  both_keep : (a : ℕ) (f b : Phase) (s t : State P E) (p q : P) → keeps f && keeps b ≡ true →
      o.g (total o s) (total o (moved o a b t q p)) ≡ o.g (total o (moved o a f s p q)) (total o t)
  both_keep a f b s t p q h =
      let y = and_parts (keeps f) (keeps b) h in
      still (total o s) _ (total o t) _ (keeps_same a f s p q y.0) (keeps_same a b t q p y.1)

  module _ {k : Kind} {f : Phase} {k' l : Kind} {b : Phase} {l' : Kind} (s t : State P E) (p q : P) (mf : Move k f k') (mb : Move l b l')
      (ip : Part p) (iq : Part q) where
    -- or both find one of these two cells alone
    both_begin : Fine 0 k s p → Fine 0 l t q → begins k f && begins l b ≡ true →
        o.g (total o s) (total o (moved o 0 b t q p)) ≡ o.g (total o (moved o 0 f s p q)) (total o t)
    both_begin gf gb h =
        let y = and_parts (begins k f) (begins l b) h in
        let m = begins_is s p q mf ip iq gf y.0 in
        let n = begins_is t q p mb iq ip gb y.1 in
        alone (total o s) _ (total o t) _ s.r t.r p q ip iq m.1 n.1 m.4 n.4

    both_stand_alone : Fine 0 k s p → Fine 0 l t q → stands_alone k f && stands_alone l b ≡ true →
        o.g (total o s) (total o (moved o 0 b t q p)) ≡ o.g (total o (moved o 0 f s p q)) (total o t)
    both_stand_alone gf gb h =
        let y = and_parts (stands_alone k f) (stands_alone l b) h in
        let m = stands_alone_is s p q mf ip gf y.0 in
        let n = stands_alone_is t q p mb iq gb y.1 in
        alone (total o s) _ (total o t) _ s.r t.r p q ip iq m.0 n.0 m.1 n.1

    -- one occurrence goes on over both cells, or ends for the one run and begins for the other
    both_extend : (n : ℕ) → Fine (suc n) k s p → Fine (suc n) l t q → extends f && extends b ≡ true →
        glued o joined (suc n) true k l' s (moved o (suc n) b t q p) p ≡ glued o joined (suc n) true k' l (moved o (suc n) f s p q) t q
    both_extend i gf gb h =
        let y = and_parts (extends f) (extends b) h in
        let m = extends_is i s p q mf ip gf y.0 in
        let n = extends_is i t q p mb iq gb y.1 in
        inside s.r _ t.r _ (opened o k s) _ (opened o l t) _ p q ip iq (opened_part (suc i) k s p gf) (opened_part (suc i) l t q gb) m.0 m.1 n.0 n.1

    both_hand_over : (n : ℕ) → Fine (suc n) k s p → Fine (suc n) l t q → hands_over f && hands_over b ≡ true →
        glued o joined (suc n) true k l' s (moved o (suc n) b t q p) p ≡ glued o joined (suc n) true k' l (moved o (suc n) f s p q) t q
    both_hand_over i gf gb h =
        let y = and_parts (hands_over f) (hands_over b) h in
        let m = hands_over_is i s p q mf y.0 in
        let n = hands_over_is i t q p mb y.1 in
        meet s.r _ t.r _ (opened o k s) _ (opened o l t) _ p q ip iq (opened_part (suc i) k s p gf) (opened_part (suc i) l t q gb) m.0 m.1 n.0 n.1

  -- the step: the glued value at cell k (s before its move, t after its move) is that at cell k + 1
  pub step : (a : ℕ) (jk jn : Bool) (k : Kind) (f : Phase) (k' l : Kind) (b : Phase) (l' : Kind) (s t : State P E) (p q : P) →
      Move k f k' → Move l b l' → Part p → Part q → Fine a k s p → Fine a l t q → fits a k f l b jk jn ≡ true →
      glued o joined a jk k l' s (moved o a b t q p) p ≡ glued o joined a jn k' l (moved o a f s p q) t q
  step zero false false k f k' l b l' s t p q mf mb ip iq gf gb h =
      ⊎_elim (both_keep 0 f b s t p q)
      (λ x. ⊎_elim (both_begin s t p q mf mb ip iq gf gb) (both_stand_alone s t p q mf mb ip iq gf gb)
      (or_cases (begins k f && begins l b) (stands_alone k f && stands_alone l b) x))
      (or_cases (keeps f && keeps b) ((begins k f && begins l b) || (stands_alone k f && stands_alone l b)) h)
  step zero false true k f k' l b l' s t p q mf mb ip iq gf gb h =
      let y = and_parts (begins k f) (goes_on b) h in
      let m = begins_is s p q mf ip iq gf y.0 in
      let n = goes_on_is t q p mb ip gb y.1 in
      begin_both (total o s) _ _ t.r _ (opened o l t) p q ip iq (opened_part 0 l t q gb) (kept l t q n.0 gb) (m.2 ∙ m.1) m.3 n.1
  step zero true false k f k' l b l' s t p q mf mb ip iq gf gb h =
      let y = and_parts (goes_on f) (begins l b) h in
      let m = goes_on_is s p q mf iq gf y.0 in
      let n = begins_is t q p mb iq ip gb y.1 in
      end_both _ (total o t) s.r _ (opened o k s) _ p q ip iq (opened_part 0 k s p gf) (kept k s p m.0 gf) (n.2 ∙ n.1) n.3 m.1
  step zero true true k f k' l b l' s t p q mf mb ip iq gf gb h =
      let y = and_parts (grows f) (grows b) h in
      let m = grows_is s p q mf iq gf y.0 in
      let n = grows_is t q p mb ip gb y.1 in
      inside_both s.r _ t.r _ (opened o k s) _ (opened o l t) _ p q ip iq (opened_part 0 k s p gf) (opened_part 0 l t q gb)
      (kept k s p m.0 gf) (kept l t q n.0 gb) m.2 m.3 n.2 n.3
  step (suc i) false false k f k' l b l' s t p q mf mb ip iq gf gb h = both_keep (suc i) f b s t p q h
  step (suc i) false true k f k' l b l' s t p q mf mb ip iq gf gb h =
      let y = and_parts (closes f) (completes b) h in
      let m = closes_is i s p q mf gf y.0 in
      begin (total o s) _ _ t.r _ (opened o l t) q iq (opened_part (suc i) l t q gb) m.0 m.1 (completes_is i t q p mb iq gb y.1)
  step (suc i) true false k f k' l b l' s t p q mf mb ip iq gf gb h =
      let y = and_parts (completes f) (closes b) h in
      let n = closes_is i t q p mb gb y.1 in
      end _ (total o t) s.r _ (opened o k s) _ p ip (opened_part (suc i) k s p gf) n.0 n.1 (completes_is i s p q mf ip gf y.0)
  step (suc i) true true k f k' l b l' s t p q mf mb ip iq gf gb h =
      ⊎_elim (both_extend s t p q mf mb ip iq i gf gb) (both_hand_over s t p q mf mb ip iq i gf gb)
      (or_cases (extends f && extends b) (hands_over f && hands_over b) h)
