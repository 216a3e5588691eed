-- A body of lines is that of one width alone: its start line has a constant for each register.
use Rattle.std.proofs.Common.{◌≡◌, ℕ, ◌+◌, ◌*◌, Bool, true, false, cond, Option, Some, None, Ok, List, [], ◌∷◌, ◌++◌, length, refl, sym, ap, subst, ◌∙◌, codes, arith, nat_lt}
use Rattle.std.specs.Prelude.{◌==◌, Result}
use Rattle.std.specs.Str.{bytes_eq}
use Rattle.std.proofs.lemmas.Bool.{eqb-true}
use Rattle.ts_base.specs.declared.ext.Ext.{Ext}
use Rattle.ts_base.specs.Words.{strict_lines, without_lf, words_of, all_words}
use Rattle.ts_automaton.specs.declared.draft.Direction.{Direction}
use Rattle.ts_automaton.specs.declared.draft.Direction.TheVariants.{Forward}
use Rattle.ts_automaton.specs.declared.draft.StateLine.{StateLine}
use Rattle.ts_automaton.specs.Registers.{EachOf}
use Rattle.ts_automaton.specs.Body.{Body}
use Rattle.ts_automaton.specs.Typing.{is_formed}
use Rattle.ts_automaton.specs.AutomatonText.{Sheet, sheet_of, body_lines, body_text}
use Rattle.ts_automaton.specs.Grammar.{Prefix, AtStates, Whole}
use Rattle.ts_automaton.specs.Lines.{word_at, constants_of, stride, read_state, read_start}
use Rattle.ts_automaton.specs.Reading.{with_head, with_state, with_start, is_state_line, with_text, onward, with_lines}
use Rattle.ts_automaton.proofs.LineLaws.{W, pass, head_again}
use Rattle.ts_automaton.proofs.FollowLaws.{Follows, whole_follows}
use Rattle.ts_automaton.proofs.BodyLaws.{formed_sheet}
use Rattle.ts_automaton.proofs.ReadLaws.{follows_read, follows_chunks}

-- no start line is one of both widths
sizes_differ : (ws : W) (r s : EachOf Ext) → read_start false ws ≡ Some r → read_start true ws ≡ Some s → ⊥
sizes_differ ws r s h g =
    let p = pass (length ws == (2 + 2 * stride false)) (cond (bytes_eq (word_at ws 0) (codes "start")) (constants_of false ws) None) r h in
    let q = pass (length ws == (2 + 2 * stride true)) (cond (bytes_eq (word_at ws 0) (codes "start")) (constants_of true ws) None) s g in
    let four = eqb-true (length ws) 4 p.0 in
    let six = eqb-true (length ws) 6 q.0 in
    omega (arith, four, six)

module _ (direction : Direction) (states : List StateLine) (n k : ℕ) (b c : Sheet) (narrow wider : Prefix → Result Prefix ℕ) where
  starts_apart : (ws : W) (o p : Option (EachOf Ext)) → read_start false ws ≡ o → read_start true ws ≡ p →
      onward n (with_start direction false states o) narrow ≡ Ok (Whole b) → onward k (with_start direction true states p) wider ≡ Ok (Whole c) → ⊥
  starts_apart ws None p e f h g = cc
  starts_apart ws (Some r) None e f h g = cc
  starts_apart ws (Some r) (Some s) e f h g = sizes_differ ws r s e f

  -- the two ways to go on after one more state
  abbrev GoOn : Type 0
  GoOn = (s : StateLine) → narrow (AtStates direction false (states ++ s ∷ [])) ≡ Ok (Whole b) →
      wider (AtStates direction true (states ++ s ∷ [])) ≡ Ok (Whole c) → ⊥

  states_apart : GoOn → (o : Option StateLine) → onward n (with_state direction false states o) narrow ≡ Ok (Whole b) →
      onward k (with_state direction true states o) wider ≡ Ok (Whole c) → ⊥
  states_apart later None h g = cc
  states_apart later (Some s) h g = go (nat_lt (length states) 8) h g where
    go : (t : Bool) → onward n (cond t (Some (AtStates direction false (states ++ s ∷ []))) None) narrow ≡ Ok (Whole b) →
        onward k (cond t (Some (AtStates direction true (states ++ s ∷ []))) None) wider ≡ Ok (Whole c) → ⊥
    go true h g = later s h g
    go false h g = cc

  words_apart : GoOn → (ws : W) (t : Bool) →
      onward n (cond t (with_state direction false states (read_state states ws)) (with_start direction false states (read_start false ws))) narrow
      ≡ Ok (Whole b) →
      onward k (cond t (with_state direction true states (read_state states ws)) (with_start direction true states (read_start true ws))) wider ≡ Ok (Whole c) →
      ⊥
  words_apart later ws true h g = states_apart later (read_state states ws) h g
  words_apart later ws false h g = starts_apart ws (read_start false ws) (read_start true ws) refl refl h g

  line_apart : GoOn → (o : Option (List ℕ)) → onward n (with_text (AtStates direction false states) o) narrow ≡ Ok (Whole b) →
      onward k (with_text (AtStates direction true states) o) wider ≡ Ok (Whole c) → ⊥
  line_apart later None h g = cc
  line_apart later (Some line) h g = words_apart later (all_words (words_of line)) (is_state_line (all_words (words_of line))) h g

lines_apart : (direction : Direction) (ts : List (List ℕ)) (states : List StateLine) (n k : ℕ) (b c : Sheet) →
    with_lines (AtStates direction false states) n ts ≡ Ok (Whole b) → with_lines (AtStates direction true states) k ts ≡ Ok (Whole c) → ⊥
lines_apart direction [] states n k b c h g = cc
lines_apart direction (t ∷ ts) states n k b c h g =
    line_apart direction states n k b c (λ d. with_lines d (n + 1) ts) (λ d. with_lines d (k + 1) ts)
    (λ s u v. lines_apart direction ts (states ++ s ∷ []) (n + 1) (k + 1) b c u v) (without_lf t) h g

-- the lines of a body are read after its head
body_read : (m : Body) → is_formed m ≡ true → with_lines (AtStates Forward m.wide []) 2 (strict_lines (body_text m)) ≡ Ok (Whole (sheet_of Forward m))
body_read m formed =
    let b : Sheet = sheet_of Forward m in
    let lines = body_lines b.wide b.states b.start b.moves b.finish b.mark in
    let all = whole_follows b (formed_sheet Forward m formed) in
    let read : Some all.0 ≡ Some (AtStates Forward m.wide []) = sym all.1 ∙ ap with_head (head_again Forward m.wide) in
    let same : all.0 ≡ AtStates Forward m.wide [] = cc in
    let rest = subst (λ (x : Prefix). Follows x lines (Whole b)) same all.3 in
    ap (with_lines (AtStates Forward m.wide []) 2) (follows_chunks (AtStates Forward m.wide []) (Whole b) lines rest)
    ∙ follows_read (AtStates Forward m.wide []) (Whole b) 2 lines rest

pub widths_differ : (m n : Body) → is_formed m ≡ true → is_formed n ≡ true → m.wide ≡ false → n.wide ≡ true → body_text m ≡ body_text n → ⊥
widths_differ m n formed also narrow wide same =
    lines_apart Forward (strict_lines (body_text m)) [] 2 2 (sheet_of Forward m) (sheet_of Forward n)
    (subst (λ (w : Bool). with_lines (AtStates Forward w []) 2 (strict_lines (body_text m)) ≡ Ok (Whole (sheet_of Forward m))) narrow (body_read m formed))
    (subst (λ (w : Bool). with_lines (AtStates Forward w []) 2 (strict_lines (body_text m)) ≡ Ok (Whole (sheet_of Forward n))) wide
    (ap (λ (t : List ℕ). with_lines (AtStates Forward n.wide []) 2 (strict_lines t)) same ∙ body_read n also))
