-- What is known while configurations are listed.
use Rattle.std.specs.Prelude.{◌≡◌, ℕ, ◌+◌, ◌*◌, ◌<◌, ◌≤◌, true, List, [], ◌∷◌, Some, map, length, slice_get}
use Rattle.ts_base.specs.declared.letter.Letter.{Letter}
use Rattle.ts_regex.specs.Shape.{Shape}
use Rattle.ts_pattern.specs.Closed.{Subject}
use Rattle.ts_pattern.specs.declared.plan.Configuration.{Configuration}
use Rattle.ts_user.specs.declared.listing.Listing.{Listing}
use Rattle.ts_user.specs.declared.build_stop.BuildStop.{BuildStop}
use Rattle.ts_user.specs.declared.build_stop.BuildStop.TheVariants.{Refused, TooMany, Memory}
use Rattle.ts_user.specs.BuildAnswers.{most_configurations}
use Rattle.ts_user.specs.Keys.{key_lists, configuration_key}
use Rattle.ts_user.specs.Books.{residuals_of, IsBook, AreListed, value_of}
use Rattle.ts_user.specs.Numbered.{AreNumbered, entry_numbers}
use Rattle.ts_user.specs.SignatureOrder.{place, signature_at}
use Rattle.ts_user.specs.FirstReached.{reached, agrees, IsFirst, PassBelow, Rises}

-- a signature of the list, at or before w, leads where w leads
abbrev pub IsCovered : Subject Shape → List (List Letter) → List Letter → Type 0
IsCovered s ws w =
    (i : ℕ) × (i < length ws) × (place (signature_at ws i) ≤ place w) × (reached s (signature_at ws i) ≡ reached s w)

-- the signatures of places below n were looked at: the list has the first ones of them, and the checks hold
pub record IsTaken (s : Subject Shape) (ws : List (List Letter)) (n : ℕ) : Type 0 where
  pub rises : Rises ws
  pub each : (i : ℕ) → i < length ws → IsFirst s (signature_at ws i)
  pub inside : (i : ℕ) → i < length ws → place (signature_at ws i) < n
  pub covers : (w : List Letter) → place w < n → IsCovered s ws w
  pub pass : PassBelow s n

-- all signatures were looked at
pub record IsWhole (s : Subject Shape) (ws : List (List Letter)) : Type 0 where
  pub rises : Rises ws
  pub each : (i : ℕ) → i < length ws → IsFirst s (signature_at ws i)
  pub covers : (w : List Letter) → IsCovered s ws w
  pub pass : (v : List Letter) (l : Letter) → agrees s (reached s v) l ≡ true

-- the steps of the first k signatures were taken: what comes next is signature k with the first letter, if there is one
pub record IsReady (s : Subject Shape) (ws : List (List Letter)) (k : ℕ) : Type 0 where
  pub more : k < length ws → IsTaken s ws (3 * place (signature_at ws k) + 1)
  pub done : k ≡ length ws → IsWhole s ws

abbrev pub signatures_of : Listing → List (List Letter)
signatures_of t = map (λ w. w.items) t.signatures.items

-- the configurations are those to which the signatures lead, the residuals are numbered as they first stand, and
-- configuration i has at most i entries
pub record IsListed (s : Subject Shape) (p : Shape) (t : Listing) : Type 0 where
  pub book : IsBook p t.book
  pub keys : key_lists t.keys ≡ map configuration_key t.configurations.items
  pub size : length t.configurations.items ≡ length (signatures_of t)
  pub values : (i : ℕ) (x : Configuration) → slice_get t.configurations.items i ≡ Some x →
      value_of (residuals_of t.book) x ≡ reached s (signature_at (signatures_of t) i)
  pub listed : (i : ℕ) (x : Configuration) → slice_get t.configurations.items i ≡ Some x →
      AreListed (residuals_of t.book) x.live.items
  pub numbered : AreNumbered 1 (entry_numbers t.configurations.items) (length (residuals_of t.book))
  pub few : length t.configurations.items ≤ most_configurations
  pub few_entries : (i : ℕ) (x : Configuration) → slice_get t.configurations.items i ≡ Some x →
      length x.live.items ≤ i

-- the start state with no entry is listed alone, by no signs
pub record IsBegun (t : Listing) : Type 0 where
  pub blank : Configuration
  pub alone : t.configurations.items ≡ blank ∷ []
  pub start : blank.state ≡ 0
  pub empty : blank.live.items ≡ []
  pub signatures : signatures_of t ≡ [] ∷ []
  pub keys : key_lists t.keys ≡ configuration_key blank ∷ []

-- two configurations have the same state and the same entries
abbrev pub AreSame : Configuration → Configuration → Type 0
AreSame x y = (x.state ≡ y.state) × (x.live.items ≡ y.live.items)

-- x is none of the configurations
abbrev pub IsNew : List Configuration → Configuration → Type 0
IsNew xs y = (i : ℕ) (x : Configuration) → slice_get xs i ≡ Some x → AreSame x y → ⊥

-- why nothing was listed where n configurations were
abbrev pub IsFull : ℕ → BuildStop → Type 0
IsFull n (Refused signature) = ⊥
IsFull n TooMany = most_configurations ≤ n
IsFull n Memory = Unit {0}
