-- What is known of the lines to come, from turn to turn.
use Rattle.std.proofs.Common.{◌≡◌, ℕ, zero, suc, ◌-◌, ◌++◌, ℤ, Bool, List, [], ◌∷◌, Option, refl, sym, ◌∙◌, ap, subst, arith}
use Rattle.std.specs.Prelude.{IsTrue}
use Rattle.ts_certificate.specs.declared.certificate.TreeLine.{TreeLine}
use Rattle.ts_certificate.specs.declared.certificate.TreeLine.TheVariants.{Split}
use Rattle.ts_filter.specs.Boxes.{Box}
use Rattle.ts_filter.specs.Steps.{made_by}
use Rattle.ts_frontier.specs.Forms.{Form, Alone, Wide, form}
use Rattle.ts_frontier.specs.Halve.{IsHalving}
use Rattle.ts_frontier.specs.Waiting.{first, rest}
use Rattle.ts_frontier.proofs.Halves.{halving_form}
use Rattle.ts_search.specs.Dive.{Find}
use Rattle.ts_search.specs.Leaps.{AreAhead, AreSplits, ExcludesInside, IsPaced, SplitsIt, lower}
use Rattle.ts_search.specs.LineOf.{Contest, Search, Sought, TheBest, TheFirst, line_of}
use Rattle.ts_search.specs.Turns.{found_after}
use Rattle.ts_search.specs.declared.pace.Pace.{Pace}

-- no line to come is known

pub none_ahead : (q : Sought) (n : ℕ) (w : List Box) → n ≡ 0 → AreAhead q n w
none_ahead q n w e = subst (λ z. AreAhead q z w) (sym e) (go w)
  where
    go : (w : List Box) → AreAhead q 0 w
    go [] = tt
    go (b ∷ w) = tt

-- what is known of the line of the first box that waits

pub first_ahead : (q : Sought) (n : ℕ) (old bs : List Box) (b : Box) → AreAhead q n old → bs ≡ old → bs ≡ b ∷ rest bs → AreSplits q n b
first_ahead q n old bs b h same front = subst (AreAhead q n) (sym same ∙ front) h

-- a known line is the split of the box
pub known_line : (q : Sought) (n : ℕ) (b : Box) (k : ℕ) (t told : ℤ) → (n ≡ 0 → ⊥) → IsHalving k t b → told ≡ t → AreSplits q n b → Split k told ≡ line_of q b
known_line q zero b k t told some h same splits = absurd (some refl)
known_line q (suc n) b k t told some h same splits = ap (Split k) same ∙ sym (subst (SplitsIt (line_of q b)) (halving_form b k t h) splits.0)

-- what is known of the lines to come after one more line

go_on : (q : Sought) (n m : ℕ) (b : Box) (w : List Box) (l : TreeLine) (P : TreeLine → ℕ → List Box → Type 0) →
    ((l : TreeLine) (w : List Box) → P l 0 w) →
    ((k : ℕ) (t : ℤ) (m : ℕ) (w : List Box) → AreAhead q m w → P (Split k t) m w) →
    AreSplits q n b → m ≡ n - 1 → l ≡ line_of q b → P l m (made_by l b ++ w)
go_on q zero m b w l P none split h e is = subst (λ z. P l z (made_by l b ++ w)) (sym (let z : m ≡ 0 = omega (arith, e) in z)) (none l (made_by l b ++ w))
go_on q (suc n) m b w l P none split h e is = go (form b) refl h.0
  where
    same : m ≡ n
    same = omega (arith, e)

    go : (f : Form) → form b ≡ f → SplitsIt (line_of q b) f → P l m (made_by l b ++ w)
    go (Alone x) i s = absurd s
    go (Wide k t) i s =
        subst (λ z. P z m (made_by z b ++ w)) (sym (is ∙ s))
        (split k t m (made_by (Split k t) b ++ w)
        (subst (λ z. AreSplits q z (lower b (Wide k t))) (sym same) (subst (λ f. AreSplits q n (lower b f)) i h.1)))

pub ahead_on : (q : Sought) (n m : ℕ) (b : Box) (w : List Box) (l : TreeLine) → AreSplits q n b → m ≡ n - 1 → l ≡ line_of q b → AreAhead q m (made_by l b ++ w)
ahead_on q n m b w l h e is =
    go_on q n m b w l (λ l m w. AreAhead q m w) (λ l w. none_ahead q 0 w refl) (λ k t m w a. a) h e is

found_on : (c : Contest) (found : Option Find) (n m : ℕ) (b : Box) (w : List Box) (l : TreeLine) → AreSplits (TheBest c found) n b → m ≡ n - 1 →
    l ≡ line_of (TheBest c found) b → AreAhead (TheBest c (found_after c found (form b) l)) m (made_by l b ++ w)
found_on c found n m b w l h e is =
    go_on (TheBest c found) n m b w l (λ l m w. AreAhead (TheBest c (found_after c found (form b) l)) m w)
    (λ l w. none_ahead (TheBest c (found_after c found (form b) l)) 0 w refl) (λ k t m w a. a) h e is

-- what is known after one more line, of the lists that the code has
module _ (b here : Box) (w after : List Box) (l : TreeLine) (front : w ≡ b ∷ rest w) (again : w ≡ here ∷ rest w)
    (boxes : after ≡ made_by l (first w) ++ rest w) where
  waiting : after ≡ made_by l b ++ rest w
  waiting = boxes ∙ ap (λ z. made_by l z ++ rest w) (ap first front)

  pub listing_paced : (c : Search) (old mid new : Pace) → (IsTrue old.leaps → ExcludesInside (TheFirst c)) → mid.leaps ≡ old.leaps → new.leaps ≡ mid.leaps →
      AreSplits (TheFirst c) mid.ahead b → new.ahead ≡ mid.ahead - 1 → l ≡ line_of (TheFirst c) b → IsPaced (TheFirst c) new after
  listing_paced c old mid new inside kept same splits less is = record {
    inside = λ t. inside (sym (same ∙ kept) ∙ t);
    ahead = subst (AreAhead (TheFirst c) new.ahead) (sym waiting) (ahead_on (TheFirst c) mid.ahead new.ahead b (rest w) l splits less is);
  }

  pub solve_paced : (c : Contest) (found found_new : Option Find) (old mid new : Pace) → (IsTrue old.leaps → ExcludesInside (TheBest c found)) →
      mid.leaps ≡ old.leaps → new.leaps ≡ mid.leaps →
      AreSplits (TheBest c found) mid.ahead b → new.ahead ≡ mid.ahead - 1 → l ≡ line_of (TheBest c found) b → found_new ≡ found_after c found (form here) l →
      IsPaced (TheBest c found_new) new after
  solve_paced c found found_new old mid new inside kept same splits less is f = record {
    inside = λ t. inside (sym (same ∙ kept) ∙ t);
    ahead = subst (AreAhead (TheBest c found_new) new.ahead) (sym waiting)
        (subst (λ z. AreAhead (TheBest c z) new.ahead (made_by l b ++ rest w))
        (sym (f ∙ ap (λ z. found_after c found (form z) l) (sym (ap first again) ∙ ap first front)))
        (found_on c found mid.ahead new.ahead b (rest w) l splits less is));
  }

-- what is known of the lines to come at the start
pub paced_first : (q : Sought) (p : Pace) (w : List Box) (leaps : Bool) → p.leaps ≡ leaps → p.ahead ≡ 0 → (IsTrue leaps → ExcludesInside q) → IsPaced q p w
paced_first q p w leaps same none inside = record { inside = λ t. inside (sym same ∙ t); ahead = none_ahead q p.ahead w none }
