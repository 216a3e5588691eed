-- A line that says ranges says one at least.
use Rattle.std.proofs.Common.{◌≡◌, ℕ, suc, ◌<◌, ℤ, Bool, true, false, cond, Option, Some, None, Ok, Err, List, [], ◌∷◌, length, drop}
use Rattle.std.proofs.Common.{refl, sym, ap, subst, ◌∙◌, arith}
use Rattle.std.specs.Prelude.{Result, ok_or}
use Rattle.std.specs.Option.{option_map}
use Rattle.std.proofs.lemmas.Bool.{ltb-true}
use Rattle.std.proofs.lemmas.List.{length-drop}
use Rattle.std.proofs.lemmas.Option.{same_Some}
use Rattle.ts_base.specs.declared.ext.Ext.{Ext}
use Rattle.ts_domain.specs.declared.interval.Interval.{Interval}
use Rattle.ts_token.specs.Number.{number_of, ext_of}
use Rattle.ts_model.specs.declared.model.Op.{Op}
use Rattle.ts_model.specs.declared.statement.TermParts.{TermParts}
use Rattle.ts_model.specs.declared.words.Form.{Form}
use Rattle.ts_model.specs.declared.words.Form.TheVariants.{Cells, Domain, Cell, Term, Require, Objective}
use Rattle.ts_model.specs.declared.error.ModelKind.{ModelKind}
use Rattle.ts_model.specs.declared.error.ModelKind.TheVariants.{Shape, Number}
use Rattle.ts_model.specs.Words.{form_of, op_of, onto, range_of, ranges_of}
use Rattle.ts_model.specs.Statement.{Meaning, SaysCells, SaysDomain, SaysCell, SaysTerm, SaysRequire, SaysObjective}
use Rattle.ts_model.specs.Statement.{word_at, has_shape, said_cell, said_require, said_term, parts_said, tail_said, said_by, parsed_as, meaning_in}

abbrev pub HasRanges : Meaning → Type 0
HasRanges (SaysCells n) = Unit {0}
HasRanges (SaysDomain rs) = 0 < length rs
HasRanges (SaysCell k rs) = 0 < length rs
HasRanges (SaysTerm name tail parts) = Unit {0}
HasRanges (SaysRequire name op bound) = Unit {0}
HasRanges (SaysObjective name) = Unit {0}

-- there are as many ranges as words
many_onto : (o : Option Interval) (more : Option (List Interval)) (n : ℕ) (rs : List Interval) → ((ss : List Interval) → more ≡ Some ss → length ss ≡ n) →
    onto o more ≡ Some rs → length rs ≡ suc n
many_onto None more n rs later h = cc
many_onto (Some r) None n rs later h = cc
many_onto (Some r) (Some ss) n rs later h = ap length (sym (same_Some (r ∷ ss) rs h)) ∙ ap suc (later ss refl)

many : (ws : List (List ℕ)) (rs : List Interval) → ranges_of ws ≡ Some rs → length rs ≡ length ws
many [] rs h = ap length (sym (same_Some [] rs h))
many (w ∷ ws) rs h = many_onto (range_of w) (ranges_of ws) (length ws) rs (λ ss e. many ws ss e) h

said_is : (s t : Meaning) → HasRanges s → ◌≡◌ {A = Option Meaning} (Some s) (Some t) → HasRanges t
said_is s t has h = subst HasRanges (same_Some s t h) has

cells_said : (o : Option ℤ) (s : Meaning) → option_map SaysCells o ≡ Some s → HasRanges s
cells_said None s h = cc
cells_said (Some n) s h = said_is (SaysCells n) s tt h

domain_said : (n : ℕ) (o : Option (List Interval)) (s : Meaning) → 0 < n → ((rs : List Interval) → o ≡ Some rs → length rs ≡ n) →
    option_map SaysDomain o ≡ Some s → HasRanges s
domain_said n None s some same h = cc
domain_said n (Some rs) s some same h = let e = same rs refl in said_is (SaysDomain rs) s (omega (arith, e, some)) h

cell_said : (n : ℕ) (k : Option ℤ) (o : Option (List Interval)) (s : Meaning) → 0 < n → ((rs : List Interval) → o ≡ Some rs → length rs ≡ n) →
    said_cell k o ≡ Some s → HasRanges s
cell_said n None o s some same h = cc
cell_said n (Some k) None s some same h = cc
cell_said n (Some k) (Some rs) s some same h = let e = same rs refl in said_is (SaysCell k rs) s (omega (arith, e, some)) h

require_said : (name : List ℕ) (op : Option Op) (bound : Option Ext) (s : Meaning) → said_require name op bound ≡ Some s → HasRanges s
require_said name None bound s h = cc
require_said name (Some op) None s h = cc
require_said name (Some op) (Some bound) s h = said_is (SaysRequire name op bound) s tt h

term_said : (name : List ℕ) (tail : Option (Option Interval)) (names : Option TermParts) (s : Meaning) → said_term name tail names ≡ Some s → HasRanges s
term_said name None names s h = cc
term_said name (Some tail) names s h = said_is (SaysTerm name tail names) s tt h

by_form : (form : Form) (ws : List (List ℕ)) (s : Meaning) → has_shape form ws ≡ true → said_by form ws ≡ Some s → HasRanges s
by_form Cells ws s shape h = cells_said (number_of (word_at ws 0)) s h
by_form Domain ws s shape h = domain_said (length ws) (ranges_of ws) s (ltb-true 0 (length ws) shape) (many ws) h
by_form Cell ws s shape h =
    let more = ltb-true 1 (length ws) shape in
    cell_said (length (drop 1 ws)) (number_of (word_at ws 0)) (ranges_of (drop 1 ws)) s (omega (arith, length-drop 1 ws, more)) (many (drop 1 ws)) h
by_form Term ws s shape h = term_said (word_at ws 0) (tail_said ws) (parts_said ws) s h
by_form Require ws s shape h = require_said (word_at ws 0) (op_of (word_at ws 1)) (ext_of (word_at ws 2)) s h
by_form Objective ws s shape h = said_is (SaysObjective (word_at ws 0)) s tt h

parts : (shape : Bool) (o : Option Meaning) (s : Meaning) → ◌≡◌ {A = Result Meaning ModelKind} (cond shape (ok_or o Number) (Err Shape)) (Ok s) →
    (shape ≡ true) × (o ≡ Some s)
parts true None s h = cc
parts true (Some t) s h = (refl, let same : t ≡ s = cc in ap (λ x. Some x) same)
parts false o s h = cc

parsed_ranges : (form : Option Form) (ws : List (List ℕ)) (s : Meaning) → parsed_as form ws ≡ Ok s → HasRanges s
parsed_ranges None ws s h = cc
parsed_ranges (Some form) ws s h = let p = parts (has_shape form ws) (said_by form ws) s h in by_form form ws s p.0 p.1

pub said_ranges : (words : List (List ℕ)) (s : Meaning) → meaning_in words ≡ Ok s → HasRanges s
said_ranges [] s h = cc
said_ranges (first ∷ ws) s h = parsed_ranges (form_of first) ws s h
