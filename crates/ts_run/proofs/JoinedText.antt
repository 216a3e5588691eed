-- A model text that was read well, and a text after it after a line `%%`, are cut into these two again.
use Rattle.std.proofs.Common.{◌≡◌, ℕ, ◌+◌, ◌&&◌, not, Bool, true, false, cond, Option, Some, None, Ok, Err, List, [], ◌∷◌, ◌++◌, length, refl, sym, ◌∙◌, ap, subst, append-nil, eqb-true}
use Rattle.std.specs.Prelude.{◌==◌, codes, is_none, Result}
use Rattle.std.specs.List.{AllByRecursion, concat}
use Rattle.std.specs.Str.{bytes_eq}
use Rattle.std.proofs.lemmas.Slice.Eq.{bytes_eq-Decides}
use Rattle.std.proofs.lemmas.Bool.{and_parts}
use Rattle.ts_base.specs.Words.{is_lf, onto_line, strict_lines}
use Rattle.ts_base.proofs.WordLaws.{has_no_lf, line_first, lines_are}
use Rattle.ts_token.specs.Text.{Cut, Piece, Row, cut_of, ends_here, is_blank, is_plain, is_skipped, is_text, lines_of, not_text_from, row_onto, rows_from, starts_hash, words_of}
use Rattle.ts_token.specs.Halves.{Halves, after_front, halves, halves_of, is_mark, is_mark_line, is_separator}
use Rattle.ts_model.specs.declared.error.ModelKind.{ModelKind}
use Rattle.ts_model.specs.declared.error.ModelKind.TheVariants.{NoCells, NoObjective}
use Rattle.ts_model.specs.declared.model.Need.{Need}
use Rattle.ts_model.specs.declared.model.Need.TheVariants.{List as NeedsList}
use Rattle.ts_model.specs.ModelReading.{ended_model, line_gives, model_reading, needs_lists, needs_objective, onward, read_rows, reading, texts_of, then_on, unless_bad}
use Rattle.ts_model.specs.ModelParts.{ModelParts, has_cells, nothing}
use Rattle.ts_model.specs.Words.{form_of}
use Rattle.ts_run.specs.Joined.{end_line, verify_input}

-- The lines of a text that isn't empty.

record HasLine (lines : List (List ℕ)) : Type 0 where
  line : List ℕ
  later : List (List ℕ)
  are : lines ≡ line ∷ later

record Starts (c : ℕ) (lines : List (List ℕ)) : Type 0 where
  line : List ℕ
  later : List (List ℕ)
  are : lines ≡ (c ∷ line) ∷ later

starts_some : (c : ℕ) (lines : List (List ℕ)) → Starts c lines → HasLine lines
starts_some c lines s = record { line = c ∷ s.line; later = s.later; are = s.are }

onto_starts : (c : ℕ) (lines : List (List ℕ)) → Starts c (onto_line c lines)
onto_starts c [] = record { line = []; later = []; are = refl }
onto_starts c (l ∷ ls) = record { line = l; later = ls; are = refl }

first_starts : (c : ℕ) (cs : List ℕ) → Starts c (strict_lines (c ∷ cs))
first_starts c cs = go (is_lf c)
  where
    go : (b : Bool) → Starts c (cond b ((c ∷ []) ∷ strict_lines cs) (onto_line c (strict_lines cs)))
    go true = record { line = []; later = strict_lines cs; are = refl }
    go false = onto_starts c (strict_lines cs)

some_line : (c : ℕ) (cs : List ℕ) → HasLine (lines_of (c ∷ cs))
some_line c [] = go (is_lf c) (c == 13)
  where
    go : (b d : Bool) → HasLine (cond b ([] ∷ []) (cond (cond d false false) [] ((c ∷ []) ∷ [])))
    go true d = record { line = []; later = []; are = refl }
    go false true = record { line = c ∷ []; later = []; are = refl }
    go false false = record { line = c ∷ []; later = []; are = refl }
some_line c (d ∷ ds) = go (is_lf c) (cond (c == 13) (is_lf d) false) (some_line d ds)
  where
    go : (b e : Bool) → HasLine (lines_of (d ∷ ds)) →
        HasLine (cond b ([] ∷ lines_of (d ∷ ds)) (cond e (lines_of (d ∷ ds)) (onto_line c (lines_of (d ∷ ds)))))
    go true e s = record { line = []; later = lines_of (d ∷ ds); are = refl }
    go false true s = s
    go false false s = record { line = c ∷ s.line; later = s.later; are = ap (onto_line c) s.are }

onto_more : (b : ℕ) (ls rest : List (List ℕ)) → HasLine ls → onto_line b (ls ++ rest) ≡ onto_line b ls ++ rest
onto_more b ls rest s =
    ap (λ (z : List (List ℕ)). onto_line b (z ++ rest)) s.are ∙ ap (λ (z : List (List ℕ)). onto_line b z ++ rest) (sym s.are)

-- The lines of a text are those of its lines with their ends.

abbrev each_line : List (List ℕ) → List (List ℕ)
each_line [] = []
each_line (l ∷ ls) = lines_of l ++ each_line ls

-- a byte before a text that begins with the byte c, by whether it is an LF
abbrev before : ℕ → Bool → Bool → List (List ℕ) → List (List ℕ)
before b lf later_lf ls = cond lf ([] ∷ ls) (cond (cond (b == 13) later_lf false) ls (onto_line b ls))

before_more : (b : ℕ) (lf : Bool) (ls rest : List (List ℕ)) → HasLine ls → before b false lf (ls ++ rest) ≡ before b false lf ls ++ rest
before_more b lf ls rest s = go (cond (b == 13) lf false)
  where
    go : (v : Bool) → cond v (ls ++ rest) (onto_line b (ls ++ rest)) ≡ cond v ls (onto_line b ls) ++ rest
    go true = refl
    go false = onto_more b ls rest s

single_line : (b : ℕ) → (b ∷ []) ∷ [] ≡ strict_lines (b ∷ [])
single_line b = go (is_lf b)
  where
    go : (v : Bool) → (b ∷ []) ∷ [] ≡ cond v ((b ∷ []) ∷ []) ((b ∷ []) ∷ [])
    go true = refl
    go false = refl

more_lines : (b c : ℕ) (cs : List ℕ) → lines_of (c ∷ cs) ≡ each_line (strict_lines (c ∷ cs)) → lines_of (b ∷ c ∷ cs) ≡ each_line (strict_lines (b ∷ c ∷ cs))
more_lines b c cs same = go (is_lf b) refl
  where
    go : (v : Bool) → is_lf b ≡ v → before b v (is_lf c) (lines_of (c ∷ cs))
        ≡ each_line (cond v ((b ∷ []) ∷ strict_lines (c ∷ cs)) (onto_line b (strict_lines (c ∷ cs))))
    go true e =
        ap (λ (z : List (List ℕ)). [] ∷ z) same
        ∙ ap (λ v. cond v ([] ∷ []) (cond (cond (b == 13) false false) [] ((b ∷ []) ∷ [])) ++ each_line (strict_lines (c ∷ cs))) (sym e)
    go false e =
        let s = first_starts c cs in
        ap (before b false (is_lf c)) (same ∙ ap each_line s.are)
        ∙ before_more b (is_lf c) (lines_of (c ∷ s.line)) (each_line s.later) (some_line c s.line)
        ∙ ap (λ v. before b v (is_lf c) (lines_of (c ∷ s.line)) ++ each_line s.later) (sym e)
        ∙ ap (λ (z : List (List ℕ)). each_line (onto_line b z)) (sym s.are)

lines_each : (text : List ℕ) → lines_of text ≡ each_line (strict_lines text)
lines_each [] = refl
lines_each (b ∷ []) = sym (append-nil (lines_of (b ∷ []))) ∙ ap each_line (single_line b)
lines_each (b ∷ c ∷ cs) = more_lines b c cs (lines_each (c ∷ cs))

-- No line whose only word is `%%`.

abbrev NoMarks : List (List ℕ) → Type 0
NoMarks ls = AllByRecursion (λ line. is_mark (words_of line) ≡ false) ls

abbrev NoSeparators : List (List ℕ) → Type 0
NoSeparators ls = AllByRecursion (λ line. is_separator line ≡ false) ls

no_mark_line : (ls rest : List (List ℕ)) → NoMarks (ls ++ rest) → is_mark_line ls ≡ false
no_mark_line [] rest h = refl
no_mark_line (l ∷ ls) rest h = h.0

no_separator : (line : List ℕ) (rest : List (List ℕ)) → NoMarks (lines_of line ++ rest) → is_separator line ≡ false
unfolding is_separator
no_separator line rest h = no_mark_line (lines_of line) rest h

later_marks : (ls rest : List (List ℕ)) → NoMarks (ls ++ rest) → NoMarks rest
later_marks [] rest h = h
later_marks (l ∷ ls) rest h = later_marks ls rest h.1

no_separators : (ls : List (List ℕ)) → NoMarks (each_line ls) → NoSeparators ls
no_separators [] h = tt
no_separators (l ∷ ls) h = (no_separator l (each_line ls) h, no_separators ls (later_marks (lines_of l) (each_line ls) h))

-- Lines before a separator.

halves_at : (ls : List (List ℕ)) (line : List ℕ) (rest : List (List ℕ)) → NoSeparators ls → is_separator line ≡ true →
    halves (ls ++ line ∷ rest) ≡ record { model = concat ls; rest = Some (concat rest) }
halves_at [] line rest none mark =
    ap (λ v. let here : Halves = record { model = []; rest = Some (concat rest) } in cond v here (after_front line (halves rest))) mark
halves_at (l ∷ ls) line rest none mark =
    ap (λ v. let here : Halves = record { model = []; rest = Some (concat (ls ++ line ∷ rest)) } in
    cond v here (after_front l (halves (ls ++ line ∷ rest)))) none.0
    ∙ ap (after_front l) (halves_at ls line rest none.1 mark)

-- A text with the LF that it may lack, and what follows it.

lf_is : is_lf 10 ≡ true
unfolding is_lf
lf_is = refl

lf_first : (b : ℕ) (bs : List ℕ) → is_lf b ≡ true → strict_lines (b ∷ bs) ≡ (b ∷ []) ∷ strict_lines bs
lf_first b bs e = ap (λ v. cond v ((b ∷ []) ∷ strict_lines bs) (onto_line b (strict_lines bs))) e

other_first : (b : ℕ) (bs : List ℕ) → is_lf b ≡ false → strict_lines (b ∷ bs) ≡ onto_line b (strict_lines bs)
other_first b bs e = ap (λ v. cond v ((b ∷ []) ∷ strict_lines bs) (onto_line b (strict_lines bs))) e

record Begins (c : ℕ) (text : List ℕ) : Type 0 where
  later : List ℕ
  is : text ≡ c ∷ later

ended_begins : (c : ℕ) (cs : List ℕ) → Begins c (end_line (c ∷ cs))
ended_begins c [] = go (is_lf c)
  where
    go : (v : Bool) → Begins c (cond v (c ∷ []) (c ∷ 10 ∷ []))
    go true = record { later = []; is = refl }
    go false = record { later = 10 ∷ []; is = refl }
ended_begins c (d ∷ ds) = record { later = end_line (d ∷ ds); is = refl }

ended_some : (c : ℕ) (cs : List ℕ) → HasLine (strict_lines (end_line (c ∷ cs)))
ended_some c cs =
    let b = ended_begins c cs in
    subst (λ (z : List ℕ). HasLine (strict_lines z)) (sym b.is) (starts_some c (strict_lines (c ∷ b.later)) (first_starts c b.later))

last_joined : (b : ℕ) (rest : List ℕ) → strict_lines (end_line (b ∷ []) ++ rest) ≡ strict_lines (end_line (b ∷ [])) ++ strict_lines rest
last_joined b rest = go (is_lf b) refl
  where
    go : (v : Bool) → is_lf b ≡ v → strict_lines (cond v (b ∷ []) (b ∷ 10 ∷ []) ++ rest) ≡ strict_lines (cond v (b ∷ []) (b ∷ 10 ∷ [])) ++ strict_lines rest
    go true e = lf_first b rest e ∙ ap (λ (z : List (List ℕ)). z ++ strict_lines rest) (sym (lf_first b [] e))
    go false e =
        other_first b (10 ∷ rest) e ∙ ap (onto_line b) (lf_first 10 rest lf_is)
        ∙ ap (λ (z : List (List ℕ)). z ++ strict_lines rest) (sym (other_first b (10 ∷ []) e ∙ ap (onto_line b) (lf_first 10 [] lf_is)))

lines_joined : (bytes rest : List ℕ) → strict_lines (end_line bytes ++ rest) ≡ strict_lines (end_line bytes) ++ strict_lines rest
lines_joined [] rest = refl
lines_joined (b ∷ []) rest = last_joined b rest
lines_joined (b ∷ c ∷ cs) rest = go (is_lf b) refl (lines_joined (c ∷ cs) rest)
  where
    go : (v : Bool) → is_lf b ≡ v → strict_lines (end_line (c ∷ cs) ++ rest) ≡ strict_lines (end_line (c ∷ cs)) ++ strict_lines rest →
        strict_lines (b ∷ (end_line (c ∷ cs) ++ rest)) ≡ strict_lines (b ∷ end_line (c ∷ cs)) ++ strict_lines rest
    go true e later =
        lf_first b (end_line (c ∷ cs) ++ rest) e ∙ ap (λ (z : List (List ℕ)). (b ∷ []) ∷ z) later
        ∙ ap (λ (z : List (List ℕ)). z ++ strict_lines rest) (sym (lf_first b (end_line (c ∷ cs)) e))
    go false e later =
        other_first b (end_line (c ∷ cs) ++ rest) e ∙ ap (onto_line b) later
        ∙ onto_more b (strict_lines (end_line (c ∷ cs))) (strict_lines rest) (ended_some c cs)
        ∙ ap (λ (z : List (List ℕ)). z ++ strict_lines rest) (sym (other_first b (end_line (c ∷ cs)) e))

-- the line `%%`

mark_is : is_separator (codes "%%\n") ≡ true
unfolding is_separator is_lf is_blank
mark_is = refl

mark_no_lf : has_no_lf (37 ∷ 37 ∷ []) ≡ true
unfolding is_lf
mark_no_lf = refl

mark_first : (text : List ℕ) → strict_lines (codes "%%\n" ++ text) ≡ codes "%%\n" ∷ strict_lines text
mark_first text = line_first (37 ∷ 37 ∷ []) text mark_no_lf

-- A text with the LF that it may lack has the same lines, where each of them is text: a CR at the end isn't.

abbrev AreText : List (List ℕ) → Type 0
AreText ls = AllByRecursion (λ line. is_text line ≡ true) ls

later_text : (b : ℕ) (ls : List (List ℕ)) (v w : Bool) → AreText (cond v ([] ∷ ls) (cond w ls (onto_line b ls))) → AreText ls
later_text b ls true w h = h.1
later_text b ls false true h = h
later_text b [] false false h = tt
later_text b (l ∷ ls) false false h = ((and_parts (is_plain b) (is_text l) h.0).1, h.1)

not_cr : (b : ℕ) → is_plain b ≡ true → (b == 13) ≡ false
unfolding is_plain
not_cr b h = go (b == 13) refl
  where
    go : (v : Bool) → (b == 13) ≡ v → v ≡ false
    go true e = let wrong = subst (λ (z : ℕ). is_plain z ≡ true) (eqb-true b 13 e) h in cc
    go false e = refl

one_line : (b : ℕ) → is_lf b ≡ false → lines_of (b ∷ []) ≡ (b ∷ []) ∷ []
one_line b e = ap (λ v. cond v ([] ∷ []) (cond (cond (b == 13) false false) [] ((b ∷ []) ∷ []))) e ∙ go (b == 13)
  where
    go : (v : Bool) → cond (cond v false false) [] ((b ∷ []) ∷ []) ≡ (b ∷ []) ∷ []
    go true = refl
    go false = refl

lf_line : lines_of (10 ∷ []) ≡ [] ∷ []
lf_line = ap (λ v. cond v ([] ∷ []) (cond (cond (10 == 13) false false) [] ((10 ∷ []) ∷ []))) lf_is

last_ended : (b : ℕ) → AreText (lines_of (b ∷ [])) → lines_of (end_line (b ∷ [])) ≡ lines_of (b ∷ [])
last_ended b h = go (is_lf b) refl
  where
    go : (v : Bool) → is_lf b ≡ v → lines_of (cond v (b ∷ []) (b ∷ 10 ∷ [])) ≡ lines_of (b ∷ [])
    go true e = refl
    go false e =
        let text = subst AreText (one_line b e) h in
        let plain = (and_parts (is_plain b) true text.0).0 in
        ap (λ v. before b v (is_lf 10) (lines_of (10 ∷ []))) e
        ∙ ap (λ v. cond (cond v (is_lf 10) false) (lines_of (10 ∷ [])) (onto_line b (lines_of (10 ∷ [])))) (not_cr b plain)
        ∙ ap (onto_line b) lf_line ∙ sym (one_line b e)

lines_ended : (bytes : List ℕ) → AreText (lines_of bytes) → lines_of (end_line bytes) ≡ lines_of bytes
lines_ended [] h = refl
lines_ended (b ∷ []) h = last_ended b h
lines_ended (b ∷ c ∷ cs) h =
    let same = lines_ended (c ∷ cs) (later_text b (lines_of (c ∷ cs)) (is_lf b) (cond (b == 13) (is_lf c) false) h) in
    ap (before b (is_lf b) (ends_here (end_line (c ∷ cs)))) same
    ∙ ap (λ (z : List ℕ). before b (is_lf b) (ends_here z) (lines_of (c ∷ cs))) (ended_begins c cs).is

-- Each line of a text that was read well is text, and none is a separator.

record ReadsWell (ls : List (List ℕ)) : Type 0 where
  text : AreText ls
  marks : NoMarks ls

skipped_no_mark : (ws : List Piece) → is_skipped ws ≡ true → is_mark ws ≡ false
skipped_no_mark [] h = refl
skipped_no_mark (w ∷ []) h = go (bytes_eq w.text (codes "%%")) refl
  where
    go : (v : Bool) → bytes_eq w.text (codes "%%") ≡ v → v ≡ false
    go true e = let wrong = subst (λ (z : List ℕ). starts_hash z ≡ true) ((bytes_eq-Decides w.text (codes "%%")).0 e) h in cc
    go false e = refl
skipped_no_mark (w ∷ v ∷ ws) h = refl

parsed_no_mark : (lists : Bool) (m after : ModelParts) (ws : List Piece) → line_gives lists m (texts_of ws) ≡ Ok after → is_mark ws ≡ false
unfolding form_of
parsed_no_mark lists m after [] h = refl
parsed_no_mark lists m after (w ∷ []) h = go (bytes_eq w.text (codes "%%")) refl
  where
    go : (v : Bool) → bytes_eq w.text (codes "%%") ≡ v → v ≡ false
    go true e = let wrong = subst (λ (z : List ℕ). line_gives lists m (z ∷ []) ≡ Ok after) ((bytes_eq-Decides w.text (codes "%%")).0 e) h in cc
    go false e = refl
parsed_no_mark lists m after (w ∷ v ∷ ws) h = refl

-- the row of a line, unless it is skipped
abbrev with_row : ℕ → List ℕ → Bool → List Row → List Row
with_row number line v rows = cond v rows (record { number = number; words = words_of line } ∷ rows)

line_reads : (lists : Bool) (number : ℕ) (old m : ModelParts) (line : List ℕ) (ls : List (List ℕ)) →
    ((k : ModelParts) → read_rows lists k (rows_from (number + 1) ls) ≡ Ok m → ReadsWell ls) → is_text line ≡ true →
    read_rows lists old (row_onto number (words_of line) (rows_from (number + 1) ls)) ≡ Ok m → ReadsWell (line ∷ ls)
line_reads lists number old m line ls more text read = on (is_skipped (words_of line)) refl read
  where
    by : (given : Result ModelParts ModelKind) → line_gives lists old (texts_of (words_of line)) ≡ given →
        onward number given (λ after. read_rows lists after (rows_from (number + 1) ls)) ≡ Ok m → ReadsWell (line ∷ ls)
    by (Err kind) e r = absurd (cc)
    by (Ok after) e r =
        let later = more after r in record { text = (text, later.text); marks = (parsed_no_mark lists old after (words_of line) e, later.marks) }

    on : (v : Bool) → is_skipped (words_of line) ≡ v →
        read_rows lists old (with_row number line v (rows_from (number + 1) ls)) ≡ Ok m → ReadsWell (line ∷ ls)
    on true e r = let later = more old r in record { text = (text, later.text); marks = (skipped_no_mark (words_of line) e, later.marks) }
    on false e r = by (line_gives lists old (texts_of (words_of line))) refl r

lines_read : (lists : Bool) (ls : List (List ℕ)) (number : ℕ) (old m : ModelParts) → not_text_from number ls ≡ None →
    read_rows lists old (rows_from number ls) ≡ Ok m → ReadsWell ls
lines_read lists [] number old m text read = record { text = tt; marks = tt }
lines_read lists (line ∷ ls) number old m text read =
    go (is_text line) refl text read (λ k t r. lines_read lists ls (number + 1) k m t r)
  where
    go : (v : Bool) → is_text line ≡ v → cond v (not_text_from (number + 1) ls) (Some number) ≡ None →
        read_rows lists old (cond v (row_onto number (words_of line) (rows_from (number + 1) ls)) []) ≡ Ok m →
        ((k : ModelParts) → not_text_from (number + 1) ls ≡ None → read_rows lists k (rows_from (number + 1) ls) ≡ Ok m → ReadsWell ls) →
        ReadsWell (line ∷ ls)
    go true e t r more = line_reads lists number old m line ls (λ k. more k t) e r
    go false e t r more = absurd (cc)

-- What is read of a text with the LF that it may lack, and where no objective is needed.

-- how a text ends of which the rows of words state this
abbrev ended_text : Need → Cut → ModelParts → Option ℕ → Result ModelParts (ℕ × ModelKind)
ended_text need c m bad = then_on (unless_bad bad m) (ended_model need c.count)

abbrev ended_reading : Need → Cut → Result ModelParts (ℕ × ModelKind) → Result ModelParts (ℕ × ModelKind)
ended_reading need c rows = then_on (then_on rows (unless_bad c.not_text)) (ended_model need c.count)

record IsRead (c : Cut) (rows : Result ModelParts (ℕ × ModelKind)) (m : ModelParts) : Type 0 where
  rows_give : rows ≡ Ok m
  text : c.not_text ≡ None
  listed : ended_reading NeedsList c rows ≡ Ok m

record IsOnly (k m : ModelParts) (v : Bool) : Type 0 where
  calm : v ≡ false
  same : k ≡ m

only_model : (k m : ModelParts) (v w : Bool) (bad worse : ℕ × ModelKind) → cond v (Err bad) (cond w (Err worse) (Ok k)) ≡ Ok m → IsOnly k m v
only_model k m true w bad worse e = absurd (cc)
only_model k m false true bad worse e = absurd (cc)
only_model k m false false bad worse e = record { calm = refl; same = let same : k ≡ m = cc in same }

well_ended : (need : Need) (c : Cut) (rows : Result ModelParts (ℕ × ModelKind)) (m : ModelParts) → ended_reading need c rows ≡ Ok m → IsRead c rows m
well_ended need c (Err bad) m h = absurd (cc)
well_ended need c (Ok k) m h = by c.not_text refl h
  where
    by : (o : Option ℕ) → c.not_text ≡ o → ended_text need c k o ≡ Ok m → IsRead c (Ok k) m
    by (Some line) e r = absurd (cc)
    by None e r =
        let only = only_model k m (not (has_cells k)) (needs_objective need && is_none k.objective) (c.count + 1, NoCells) (c.count + 1, NoObjective) r in
        record {
          rows_give = ap Ok only.same;
          text = e;
          listed = ap (ended_text NeedsList c k) e ∙ ap (λ v. cond v (Err (c.count + 1, NoCells)) (Ok k)) only.calm ∙ ap Ok only.same;
        }

-- the cut of a text by its lines
abbrev cut_by : List (List ℕ) → Cut
cut_by ls = record { rows = rows_from 1 ls; count = length ls; not_text = not_text_from 1 ls }

module _ (need : Need) (lists : needs_lists need ≡ true) (bytes : List ℕ) (m : ModelParts) (read : model_reading need bytes ≡ Ok m) where
  read_well : IsRead (cut_of bytes) (read_rows (needs_lists need) nothing (cut_of bytes).rows) m
  read_well = well_ended need (cut_of bytes) (read_rows (needs_lists need) nothing (cut_of bytes).rows) m read

  well : ReadsWell (lines_of bytes)
  well = lines_read (needs_lists need) (lines_of bytes) 1 nothing m read_well.text read_well.rows_give

  -- the model is read from the bytes with their last LF
  pub ended_model_read : model_reading NeedsList (end_line bytes) ≡ Ok m
  ended_model_read =
      ap (λ ls. reading NeedsList (cut_by ls)) (lines_ended bytes well.text)
      ∙ ap (λ v. ended_reading NeedsList (cut_of bytes) (read_rows v nothing (cut_of bytes).rows)) (sym lists) ∙ read_well.listed

  separators : NoSeparators (strict_lines (end_line bytes))
  separators =
      no_separators (strict_lines (end_line bytes)) (subst NoMarks (sym (lines_ended bytes well.text) ∙ lines_each (end_line bytes)) well.marks)

  -- the model and the text after it are cut again
  pub joined_halves : (text : List ℕ) → halves_of (verify_input bytes text) ≡ record { model = end_line bytes; rest = Some text }
  joined_halves text =
      ap halves (lines_joined bytes (codes "%%\n" ++ text) ∙ ap (λ (z : List (List ℕ)). strict_lines (end_line bytes) ++ z) (mark_first text))
      ∙ halves_at (strict_lines (end_line bytes)) (codes "%%\n") (strict_lines text) separators mark_is
      ∙ (λ i. record { model = lines_are (end_line bytes) i; rest = Some (lines_are text i) })
