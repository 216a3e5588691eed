-- The words of a line are read as what they spell, and what is read from words is spelled by them.
use Rattle.std.proofs.Common.{◌≡◌, ℕ, ◌≤◌, Bool, true, false, cond, Option, Some, None, List, [], ◌∷◌, length, drop}
use Rattle.std.proofs.Common.{refl, sym, ap, subst, ◌∙◌, ◌&&◌, codes, arith}
use Rattle.std.specs.Prelude.{ℤ, pos, ◌+◌, ◌*◌, ◌==◌, ◌||◌}
use Rattle.std.specs.Ordering.{int_eq}
use Rattle.std.specs.Str.{bytes_eq}
use Rattle.std.proofs.lemmas.Slice.Eq.{bytes_eq-Decides}
use Rattle.std.proofs.lemmas.Bool.{eqb-true, and_parts}
use Rattle.std.proofs.lemmas.Bool.Decides.{Decides-int_eq}
use Rattle.ts_base.specs.declared.ext.Ext.{Ext}
use Rattle.ts_base.specs.declared.ext.Ext.TheVariants.{NegInf, Int, PosInf}
use Rattle.ts_base.proofs.WordLaws.{keyword_or}
use Rattle.ts_automaton.specs.declared.draft.Direction.{Direction}
use Rattle.ts_automaton.specs.declared.draft.Direction.TheVariants.{Forward, Reverse}
use Rattle.ts_automaton.specs.declared.draft.StateLine.{StateLine}
use Rattle.ts_automaton.specs.Registers.{EachOf}
use Rattle.ts_automaton.specs.Typing.{each_is, is_constant, is_number_zero, are_constants}
use Rattle.ts_automaton.specs.AutomatonText.{direction_word, head_words, held_word, state_words, constant_word, start_words}
use Rattle.ts_automaton.specs.Grammar.{is_new}
use Rattle.ts_automaton.specs.Lines.{word_at, direction_of, head_made, read_head, held_of, only_byte, new_name, state_made, read_state, constant_of, constant_at, constants_of, stride, read_start, is_end}
use Rattle.ts_automaton.proofs.Five.{five_parts, all_parts, all_again, read_tests}

-- a list of words
abbrev pub W : Type 0
W = List (List ℕ)

pub equal : (w text : List ℕ) → bytes_eq w text ≡ true → w ≡ text
equal w text e = (bytes_eq-Decides w text).0 e

pub same : (w : List ℕ) → bytes_eq w w ≡ true
same w = (bytes_eq-Decides w w).1 refl

-- as many words as that
one_word : (ws : W) → length ws == 1 ≡ true → ws ≡ word_at ws 0 ∷ []
one_word [] h = cc
one_word (a ∷ []) h = refl
one_word (a ∷ b ∷ ws) h = let e = eqb-true (length (a ∷ b ∷ ws)) 1 h in absurd (omega (arith, e))

two : (ws : W) → length ws == 2 ≡ true → ws ≡ word_at ws 0 ∷ word_at ws 1 ∷ []
two [] h = cc
two (a ∷ []) h = cc
two (a ∷ b ∷ []) h = refl
two (a ∷ b ∷ c ∷ ws) h = let e = eqb-true (length (a ∷ b ∷ c ∷ ws)) 2 h in absurd (omega (arith, e))

three : (ws : W) → length ws == 3 ≡ true → ws ≡ word_at ws 0 ∷ word_at ws 1 ∷ word_at ws 2 ∷ []
three [] h = cc
three (a ∷ []) h = cc
three (a ∷ b ∷ []) h = cc
three (a ∷ b ∷ c ∷ []) h = refl
three (a ∷ b ∷ c ∷ d ∷ ws) h = let e = eqb-true (length (a ∷ b ∷ c ∷ d ∷ ws)) 3 h in absurd (omega (arith, e))

four : (ws : W) → length ws == 4 ≡ true → ws ≡ word_at ws 0 ∷ word_at ws 1 ∷ word_at ws 2 ∷ word_at ws 3 ∷ []
four [] h = cc
four (a ∷ []) h = cc
four (a ∷ b ∷ []) h = cc
four (a ∷ b ∷ c ∷ []) h = cc
four (a ∷ b ∷ c ∷ d ∷ []) h = refl
four (a ∷ b ∷ c ∷ d ∷ e ∷ ws) h = let k = eqb-true (length (a ∷ b ∷ c ∷ d ∷ e ∷ ws)) 4 h in absurd (omega (arith, k))

six : (ws : W) → length ws == 6 ≡ true → ws ≡ word_at ws 0 ∷ word_at ws 1 ∷ word_at ws 2 ∷ word_at ws 3 ∷ word_at ws 4 ∷ word_at ws 5 ∷ []
six [] h = cc
six (a ∷ []) h = cc
six (a ∷ b ∷ []) h = cc
six (a ∷ b ∷ c ∷ []) h = cc
six (a ∷ b ∷ c ∷ d ∷ []) h = cc
six (a ∷ b ∷ c ∷ d ∷ e ∷ []) h = cc
six (a ∷ b ∷ c ∷ d ∷ e ∷ f ∷ []) h = refl
six (a ∷ b ∷ c ∷ d ∷ e ∷ f ∷ g ∷ ws) h = let k = eqb-true (length (a ∷ b ∷ c ∷ d ∷ e ∷ f ∷ g ∷ ws)) 6 h in absurd (omega (arith, k))

pub five : (ws : W) → 5 ≤ length ws → ws ≡ word_at ws 0 ∷ word_at ws 1 ∷ word_at ws 2 ∷ word_at ws 3 ∷ word_at ws 4 ∷ drop 5 ws
five [] h = absurd (omega arith)
five (a ∷ []) h = absurd (omega arith)
five (a ∷ b ∷ []) h = absurd (omega arith)
five (a ∷ b ∷ c ∷ []) h = absurd (omega arith)
five (a ∷ b ∷ c ∷ d ∷ []) h = absurd (omega arith)
five (a ∷ b ∷ c ∷ d ∷ e ∷ ws) h = refl

-- a test before a choice
pub pass : {X : Type 0} (t : Bool) (o : Option X) (x : X) → cond t o None ≡ Some x → (t ≡ true) × (o ≡ Some x)
pass true o x h = (refl, h)
pass false o x h = cc

pub go_on : {X : Type 0} (t : Bool) (o : Option X) (x : X) → t ≡ true → o ≡ Some x → cond t o None ≡ Some x
go_on true o x e h = h
go_on false o x e h = cc

-- three tests
pub three_parts : (a b c : Bool) → (a && b && c) ≡ true → (a ≡ true) × (b ≡ true) × (c ≡ true)
three_parts true true c h = (refl, refl, h)
three_parts true false c h = cc
three_parts false b c h = cc

pub three_true : (a b c : Bool) → a ≡ true → b ≡ true → c ≡ true → (a && b && c) ≡ true
three_true true true c e f g = g
three_true true false c e f g = cc
three_true false b c e f g = cc

-- heads
direction_word_only : (w : List ℕ) (x : Direction) → direction_of w ≡ Some x → w ≡ direction_word x
direction_word_only w x h =
    keyword_or (w ≡ direction_word x) w (codes "forward") (Some Forward) _ x (λ is k. let e : Forward ≡ x = cc in is ∙ ap direction_word e)
    (keyword_or (w ≡ direction_word x) w (codes "reverse") (Some Reverse) None x (λ is k. let e : Reverse ≡ x = cc in is ∙ ap direction_word e)
    (λ k. cc))
    h

made_only : (wide : Bool) (w : List ℕ) (o : Option Direction) (h : Direction × Bool) → direction_of w ≡ o → head_made wide o ≡ Some h →
    (w ≡ direction_word h.0) × (wide ≡ h.1)
made_only wide w None h e k = cc
made_only wide w (Some x) h e k =
    let is : ◌≡◌ {A = Direction × Bool} (x, wide) h = cc in
    subst (λ (y : Direction × Bool). (w ≡ direction_word y.0) × (wide ≡ y.1)) is (direction_word_only w x e, refl)

-- the way, and `wide`
pub head_only : (ws : W) (h : Direction × Bool) → read_head ws ≡ Some h → ws ≡ head_words h.0 h.1
head_only ws h k = go (length ws == 1) refl k where
  marked : Option (Direction × Bool)
  marked = cond (bytes_eq (word_at ws 1) (codes "wide")) (head_made true (direction_of (word_at ws 0))) None

  go : (t : Bool) → length ws == 1 ≡ t → cond t (head_made false (direction_of (word_at ws 0))) (cond (length ws == 2) marked None) ≡ Some h →
      ws ≡ head_words h.0 h.1
  go true e k =
      let s = made_only false (word_at ws 0) (direction_of (word_at ws 0)) h refl k in
      one_word ws e ∙ ap (λ (w : List ℕ). w ∷ []) s.0 ∙ ap (head_words h.0) s.1
  go false e k =
      let p = pass (length ws == 2) marked h k in
      let q = pass (bytes_eq (word_at ws 1) (codes "wide")) (head_made true (direction_of (word_at ws 0))) h p.1 in
      let s = made_only true (word_at ws 0) (direction_of (word_at ws 0)) h refl q.1 in
      two ws p.0
      ∙ ap (λ (w : List ℕ). w ∷ word_at ws 1 ∷ []) s.0
      ∙ ap (λ (w : List ℕ). direction_word h.0 ∷ w ∷ []) (equal (word_at ws 1) (codes "wide") q.0)
      ∙ ap (head_words h.0) s.1

pub head_again : (direction : Direction) (wide : Bool) → read_head (head_words direction wide) ≡ Some (direction, wide)
head_again Forward false = refl
head_again Forward true = refl
head_again Reverse false = refl
head_again Reverse true = refl

-- states
held_only : (w : List ℕ) (h : Bool) → held_of w ≡ Some h → w ≡ held_word h
held_only w h e =
    keyword_or (w ≡ held_word h) w (codes "free") (Some false) _ h (λ is k. let e : false ≡ h = cc in is ∙ ap held_word e)
    (keyword_or (w ≡ held_word h) w (codes "held") (Some true) None h (λ is k. let e : true ≡ h = cc in is ∙ ap held_word e)
    (λ k. cc))
    e

held_again : (h : Bool) → held_of (held_word h) ≡ Some h
held_again true = refl
held_again false = refl

pub letter_only : (w : List ℕ) (b : ℕ) → only_byte w ≡ Some b → w ≡ b ∷ []
letter_only [] b h = cc
letter_only (a ∷ []) b h = let e : a ≡ b = cc in ap (λ (x : ℕ). x ∷ []) e
letter_only (a ∷ c ∷ w) b h = cc

new_only : (states : List StateLine) (o : Option ℕ) (b : ℕ) → new_name states o ≡ Some b → (o ≡ Some b) × (is_new states b ≡ true)
new_only states None b h = cc
new_only states (Some a) b h =
    let p = pass (is_new states a) (Some a) b h in
    let e : a ≡ b = (let q = p.1 in cc) in
    (p.1, ap (is_new states) (sym e) ∙ p.0)

abbrev IsState : List StateLine → List ℕ → List ℕ → StateLine → Type 0
IsState states v w n = (v ≡ n.name ∷ []) × (w ≡ held_word n.held) × (is_new states n.name ≡ true)

state_parts : (states : List StateLine) (v w : List ℕ) (o : Option ℕ) (h : Option Bool) (n : StateLine) →
    new_name states (only_byte v) ≡ o → held_of w ≡ h → state_made o h ≡ Some n → IsState states v w n
state_parts states v w None h n e f k = cc
state_parts states v w (Some b) None n e f k = cc
state_parts states v w (Some b) (Some h) n e f k =
    let is : record { name = b; held = h } ≡ n = cc in
    let read = new_only states (only_byte v) b e in
    let here : IsState states v w (record { name = b; held = h }) = (letter_only v b read.0, held_only w h f, read.1) in
    subst (IsState states v w) is here

pub state_only : (states : List StateLine) (ws : W) (n : StateLine) → read_state states ws ≡ Some n → (ws ≡ state_words n) × (is_new states n.name ≡ true)
state_only states ws n h =
    let name = new_name states (only_byte (word_at ws 1)) in
    let held = held_of (word_at ws 2) in
    let p = pass (length ws == 3) (cond (bytes_eq (word_at ws 0) (codes "state")) (state_made name held) None) n h in
    let q = pass (bytes_eq (word_at ws 0) (codes "state")) (state_made name held) n p.1 in
    let s = state_parts states (word_at ws 1) (word_at ws 2) name held n refl refl q.1 in
    let keyword = equal (word_at ws 0) (codes "state") q.0 in
    (cc (three ws p.0, keyword, s.0, s.1), s.2)

pub state_again : (states : List StateLine) (n : StateLine) → is_new states n.name ≡ true → read_state states (state_words n) ≡ Some n
state_again states n h =
    ap (λ t. state_made (cond t (Some n.name) None) (held_of (held_word n.held))) h
    ∙ ap (state_made (Some n.name)) (held_again n.held)

-- start constants
abbrev IsConstant : List ℕ → Ext → Type 0
IsConstant w e = (w ≡ constant_word e) × (is_constant e ≡ true)

module _ (w : List ℕ) (e : Ext) where
  one_constant : (f : Ext) (text : List ℕ) → text ≡ constant_word f → is_constant f ≡ true → w ≡ text → Some f ≡ Some e → IsConstant w e
  one_constant f text t test is k =
      let here : IsConstant w f = (is ∙ t, test) in
      let are : f ≡ e = cc in
      subst (IsConstant w) are here

  constant_only : constant_of w ≡ Some e → IsConstant w e
  constant_only h =
      keyword_or (IsConstant w e) w (codes "0") (Some (Int (pos 0))) _ e (λ is k. one_constant (Int (pos 0)) (codes "0") refl refl is k)
      (keyword_or (IsConstant w e) w (codes "1") (Some (Int (pos 1))) _ e (λ is k. one_constant (Int (pos 1)) (codes "1") refl refl is k)
      (keyword_or (IsConstant w e) w (codes "-inf") (Some NegInf) _ e (λ is k. one_constant NegInf (codes "-inf") refl refl is k)
      (keyword_or (IsConstant w e) w (codes "+inf") (Some PosInf) None e (λ is k. one_constant PosInf (codes "+inf") refl refl is k)
      (λ k. cc))))
      h

-- the constants are four
pub constants_four : (P : Ext → Type 0) → P (Int (pos 0)) → P (Int (pos 1)) → P NegInf → P PosInf → (e : Ext) → is_constant e ≡ true → P e
constants_four P a b c d NegInf h = c
constants_four P a b c d PosInf h = d
constants_four P a b c d (Int x) h = go (int_eq x (pos 0)) (int_eq x (pos 1)) refl refl h where
  go : (s t : Bool) → int_eq x (pos 0) ≡ s → int_eq x (pos 1) ≡ t → (s || t) ≡ true → P (Int x)
  go true t e f k = subst (λ (y : ℤ). P (Int y)) (sym ((Decides-int_eq x (pos 0)).0 e)) a
  go false true e f k = subst (λ (y : ℤ). P (Int y)) (sym ((Decides-int_eq x (pos 1)).0 f)) b
  go false false e f k = cc

constant_again : (e : Ext) → is_constant e ≡ true → constant_of (constant_word e) ≡ Some e
constant_again e h = constants_four (λ (x : Ext). constant_of (constant_word x) ≡ Some x) refl refl refl refl e h

constant_passes : (w : List ℕ) (e : Ext) → constant_of w ≡ Some e → is_constant e ≡ true
constant_passes w e h = (constant_only w e h).1

spelled : (w : List ℕ) (e : Ext) → constant_of w ≡ Some e → w ≡ constant_word e
spelled w e h = (constant_only w e h).0

start_words_are : (wide : Bool) (ws : W) (r : EachOf Ext) → length ws == (2 + 2 * stride wide) ≡ true → word_at ws 0 ≡ codes "start" →
    constants_of wide ws ≡ Some r → ws ≡ start_words wide r
start_words_are false ws r size keyword h =
    let p = all_parts (constant_at ws 1) (Some (Int (pos 0))) (constant_at ws 2) (Some (Int (pos 0))) (constant_at ws 3) r h in
    let c = spelled (word_at ws 1) r.c p.0 in
    let d = spelled (word_at ws 2) r.d p.2 in
    let e = spelled (word_at ws 3) r.r p.4 in
    let is : ws ≡ codes "start" ∷ constant_word r.c ∷ constant_word r.d ∷ constant_word r.r ∷ [] = cc (four ws size, keyword, c, d, e) in
    is
start_words_are true ws r size keyword h =
    let p = all_parts (constant_at ws 1) (constant_at ws 2) (constant_at ws 3) (constant_at ws 4) (constant_at ws 5) r h in
    let c = spelled (word_at ws 1) r.c p.0 in
    let d = spelled (word_at ws 2) r.e p.1 in
    let e = spelled (word_at ws 3) r.d p.2 in
    let f = spelled (word_at ws 4) r.f p.3 in
    let g = spelled (word_at ws 5) r.r p.4 in
    let is : ws ≡ codes "start" ∷ constant_word r.c ∷ constant_word r.e ∷ constant_word r.d ∷ constant_word r.f ∷ constant_word r.r ∷ [] =
    cc (six ws size, keyword, c, d, e, f, g) in
    is

pub start_only : (wide : Bool) (ws : W) (r : EachOf Ext) → read_start wide ws ≡ Some r → (ws ≡ start_words wide r) × (are_constants wide r ≡ true)
start_only wide ws r h =
    let p = pass (length ws == (2 + 2 * stride wide)) (cond (bytes_eq (word_at ws 0) (codes "start")) (constants_of wide ws) None) r h in
    let q = pass (bytes_eq (word_at ws 0) (codes "start")) (constants_of wide ws) r p.1 in
    let tests = read_tests is_constant is_number_zero (Int (pos 0)) refl refl wide
    (constant_at ws 1) (constant_at ws 2) (constant_at ws (1 + stride wide)) (constant_at ws 4) (constant_at ws (1 + 2 * stride wide)) r
    (λ x k. constant_passes (word_at ws 1) x k) (λ x k. constant_passes (word_at ws 2) x k) (λ x k. constant_passes (word_at ws (1 + stride wide)) x k)
    (λ x k. constant_passes (word_at ws 4) x k) (λ x k. constant_passes (word_at ws (1 + 2 * stride wide)) x k) q.1 in
    (start_words_are wide ws r p.0 (equal (word_at ws 0) (codes "start") q.0) q.1, tests)

pub number_zero : (e : Ext) → is_number_zero e ≡ true → Int (pos 0) ≡ e
number_zero NegInf h = cc
number_zero (Int x) h = ap Int (sym ((Decides-int_eq x (pos 0)).0 h))
number_zero PosInf h = cc

pub start_again : (wide : Bool) (r : EachOf Ext) → are_constants wide r ≡ true → read_start wide (start_words wide r) ≡ Some r
start_again false r h =
    let p = and_parts (each_is is_constant r) (is_number_zero r.e && is_number_zero r.f) h in
    let all = five_parts (is_constant r.c) (is_constant r.e) (is_constant r.d) (is_constant r.f) (is_constant r.r) p.0 in
    let rest = and_parts (is_number_zero r.e) (is_number_zero r.f) p.1 in
    all_again (constant_of (constant_word r.c)) (Some (Int (pos 0))) (constant_of (constant_word r.d)) (Some (Int (pos 0)))
    (constant_of (constant_word r.r)) r
    (constant_again r.c all.0, ap Some (number_zero r.e rest.0), constant_again r.d all.2, ap Some (number_zero r.f rest.1), constant_again r.r all.4)
start_again true r h =
    let p = and_parts (each_is is_constant r) true h in
    let all = five_parts (is_constant r.c) (is_constant r.e) (is_constant r.d) (is_constant r.f) (is_constant r.r) p.0 in
    all_again (constant_of (constant_word r.c)) (constant_of (constant_word r.e)) (constant_of (constant_word r.d)) (constant_of (constant_word r.f))
    (constant_of (constant_word r.r)) r
    (constant_again r.c all.0, constant_again r.e all.1, constant_again r.d all.2, constant_again r.f all.3, constant_again r.r all.4)

-- end lines
pub end_only : (ws : W) → is_end ws ≡ true → ws ≡ codes "end" ∷ []
end_only ws h =
    let p = and_parts (length ws == 1) (bytes_eq (word_at ws 0) (codes "end")) h in
    one_word ws p.0 ∙ ap (λ (w : List ℕ). w ∷ []) (equal (word_at ws 0) (codes "end") p.1)
