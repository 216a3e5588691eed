-- A signature is decoded one letter at a time.
use Rattle.std.specs.Prelude.{◌≡◌, ℕ, zero, suc, ◌+◌, ◌<◌, true, List, [], ◌∷◌, ◌++◌, length, drop, get_or, Option, refl}
use Rattle.std.specs.Option.{option_to_list}
use Rattle.std.proofs.Common.{sym, ◌∙◌, ap, subst, arith, append_assoc}
use Rattle.std.proofs.lemmas.List.{drop_more}
use Rattle.ts_base.specs.declared.letter.Letter.{Letter}
use Rattle.ts_base.specs.declared.range.Range.{Range}
use Rattle.ts_transducer.specs.declared.row.Arrow.{Arrow}
use Rattle.ts_transducer.specs.declared.row.Row.{Row}
use Rattle.ts_transducer.specs.Typing.{is_typed}
use Rattle.ts_transducer.specs.Decode.{start_after, held_after, emitted_at, row_at, arrow_on, arrow_at, decode_from}
use Rattle.ts_transducer.proofs.CallerLemmas.{move_stays}

row_read : (rows : List Row) (q : ℕ) (d : Row) → q < length rows → get_or rows q d ≡ row_at rows q
row_read [] q d h = absurd (omega (arith, h))
row_read (r ∷ rows) zero d h = refl
row_read (r ∷ rows) (suc q) d h = row_read rows q d (omega (arith, h))

pub arrow_read : (rows seen : List Row) (q : ℕ) (l : Letter) (d : Row) (m : Arrow) → q < length rows → seen ≡ rows → m ≡ arrow_on l (get_or seen q d) →
    m ≡ arrow_at rows q l
arrow_read rows seen q l d m h s e =
    e ∙ ap (λ rs. arrow_on l (get_or rs q d)) s ∙ ap (λ r. arrow_on l r) (row_read rows q d h)

-- the letter at place k is read: its move is m, and the decoder emits e and goes on with d' and c'
pub letter_read : (rows : List Row) (a k q : ℕ) (d d' : Option ℕ) (c c' e : Option Range) (w : List Letter) (old new all : List Range) (x : Letter)
    (m : Arrow) →
    k < length w → m ≡ arrow_at rows q (get_or w k x) → e ≡ emitted_at m.phase a (k + 1) d c → d' ≡ start_after m.phase (k + 1) d →
    c' ≡ held_after m.phase a (k + 1) d c →
    new ≡ old ++ option_to_list e → old ++ decode_from rows a k q d c (drop k w) ≡ all → new ++ decode_from rows a (k + 1) m.next d' c' (drop (k + 1) w) ≡ all
letter_read rows a k q d d' c c' e w old new all x m h is_move is_emitted is_start is_held grown before =
    let rest : ℕ → Option ℕ → Option Range → List Range = λ n s r. decode_from rows a (k + 1) n s r (drop (k + 1) w) in
    let step : Arrow → List Range = λ y. option_to_list (emitted_at y.phase a (k + 1) d c) ++ rest y.next (start_after y.phase (k + 1) d)
    (held_after y.phase a (k + 1) d c) in
    ap (λ z. z ++ rest m.next d' c') grown ∙ append_assoc old (option_to_list e) (rest m.next d' c')
    ∙ ap (λ z. old ++ (option_to_list z ++ rest m.next d' c')) is_emitted
    ∙ ap (λ z. old ++ (option_to_list (emitted_at m.phase a (k + 1) d c) ++ rest m.next z c')) is_start
    ∙ ap (λ z. old ++ (option_to_list (emitted_at m.phase a (k + 1) d c) ++ rest m.next (start_after m.phase (k + 1) d) z)) is_held
    ∙ ap (λ y. old ++ step y) is_move
    ∙ ap (λ v. old ++ decode_from rows a k q d c v) (sym (drop_more w k x h)) ∙ before

pub next_stays : (rows : List Row) → is_typed rows ≡ true → (q : ℕ) (l : Letter) (m : Arrow) → m ≡ arrow_at rows q l → m.next < length rows
next_stays rows h q l m e = subst (λ y. y.next < length rows) (sym e) (move_stays rows h q l)
