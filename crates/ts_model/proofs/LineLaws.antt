-- The texts of words.
use Rattle.std.proofs.Common.{◌≡◌, ℕ, List, [], ◌∷◌, refl, ap}
use Rattle.ts_token.specs.declared.words.Word.{Word}
use Rattle.ts_token.specs.Views.{pieces}
use Rattle.ts_model.specs.ModelReading.{texts_of}
use Rattle.ts_model.specs.Views.{texts}

pub texts_pieces : (ws : List Word) → texts_of (pieces ws) ≡ texts ws
texts_pieces [] = refl
texts_pieces (w ∷ ws) = ap (λ (x : List (List ℕ)). w.text.now ∷ x) (texts_pieces ws)
