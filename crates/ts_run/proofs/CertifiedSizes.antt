-- The text of a certificate that was written goes to `verify`: it is read as the same certificate, and it fits.
use Rattle.std.proofs.Common.{◌≡◌, ℕ, ◌+◌, ◌^◌, ◌<◌, ◌≤◌, ℤ, Bool, true, false, cond, List, [], ◌∷◌, ◌++◌, length, length-append, Some, Ok, refl, sym, ◌∙◌, ap, subst, arith}
use Rattle.std.proofs.lemmas.Bool.{and_from, le-leb}
use Rattle.std.specs.List.{AllByRecursion, list_all}
use Rattle.std.specs.Prelude.{codes, nat_le, unwrap_or}
use Rattle.ts_base.specs.Windows.{LooksInside}
use Rattle.ts_base.specs.declared.ext.Ext.{Ext}
use Rattle.ts_base.specs.declared.goal.Goal.{Goal}
use Rattle.ts_base.specs.Limits.{IsCellValue, most_cells, most_checked, most_domain_values, most_listed, most_model_bytes}
use Rattle.ts_base.specs.Words.{is_lf, strict_lines}
use Rattle.ts_token.specs.Halves.{Halves}
use Rattle.ts_certificate.specs.declared.certificate.Aim.TheVariants.{Best as BestOf, List as ListOf}
use Rattle.ts_certificate.specs.declared.certificate.Claim.{Claim}
use Rattle.ts_certificate.specs.declared.certificate.Claim.TheVariants.{Best, Infeasible, BudgetBest, BudgetNone, Full, All, BudgetList}
use Rattle.ts_certificate.specs.declared.certificate.TreeLine.{TreeLine}
use Rattle.ts_certificate.specs.declared.certificate.TreeLine.TheVariants.{Split, Remove, No, Worse, Yes, Unsearched}
use Rattle.ts_certificate.specs.declared.state.State.TheVariants.{Start, AfterEnd}
use Rattle.ts_certificate.specs.Certificate.{Cert, IsCertificate, cert_lines, certificate_text, checked_count, open_count}
use Rattle.ts_certificate.specs.Grammar.{series_count}
use Rattle.ts_certificate.specs.HeadLines.{is_aim, is_claim, is_series}
use Rattle.ts_certificate.specs.Laws.{IsWithinLimits}
use Rattle.ts_certificate.specs.Ranges.{is_ext, is_listed, is_value}
use Rattle.ts_certificate.specs.TreeLines.{is_tree_line}
use Rattle.ts_certificate.proofs.CallerLemmas.{certificate_runs, lines_count, lines_cut, runs_give, text_fits, written_read}
use Rattle.ts_domain.specs.BoxSeries.{InBox, IsBox}
use Rattle.ts_domain.proofs.Sets.{each_contains, le_true}
use Rattle.ts_model.specs.declared.model.Need.{Need}
use Rattle.ts_model.specs.declared.model.Need.TheVariants.{List as NeedsList, Best as NeedsBest}
use Rattle.ts_model.specs.FirstBest.{objective_of}
use Rattle.ts_model.specs.Meets.{Meets}
use Rattle.ts_model.specs.ModelReading.{model_reading, needs_lists}
use Rattle.ts_model.specs.Promise.{IsWhole, KeepsLimits}
use Rattle.ts_model.specs.ModelParts.{ModelParts}
use Rattle.ts_filter.specs.Accepts.{Accepts, AllFit, IsAsClaimed}
use Rattle.ts_filter.specs.Rules.{head_of}
use Rattle.ts_filter.specs.Tree.{Tree, Leaf, Drop, Fork, tree_lines}
use Rattle.ts_filter.proofs.Answered.{accepted_holds}
use Rattle.ts_filter.proofs.RangeLaws.{lines_in_range}
use Rattle.ts_filter.proofs.SoundLaws.{values_are_sound, series_length}
use Rattle.ts_filter.proofs.TreeLaws.{to_steps}
use Rattle.ts_spans.specs.Machines.{spans_in}
use Rattle.ts_spans.proofs.OfTerms.{spans_hold_values}
use Rattle.ts_search.specs.LineOf.{contest_for}
use Rattle.ts_search.specs.Listed.{IsListedBy, IsListAnswer}
use Rattle.ts_search.specs.Solved.{IsSolvedBy, IsSolution}
use Rattle.ts_search.proofs.OfProgram.{are_right}
use Rattle.ts_search.proofs.OpenLines.{solved_opens_few, listed_opens_few}
use Rattle.ts_checker.specs.Verdicts.{AreOf}
use Rattle.ts_run.specs.AnswerTexts.{IsOffered}
use Rattle.ts_run.specs.Joined.{GoesToVerify, end_line, verify_input}
use Rattle.ts_run.specs.Quantities.{IsWithin}
use Rattle.ts_run.proofs.JoinedText.{ended_model_read, joined_halves}
use Rattle.ts_run.proofs.VerifyLaws.{accepted_reply}
use Rattle.ts_run.proofs.ValueSizes.{cells_within, objective_fits as value_fits_text}

-- series that meet

value_fits : (v : ℤ) → IsCellValue v → is_value v ≡ true
value_fits v h = and_from _ _ (le_true _ v h.0) (le_true v _ h.1)

values_fit : (x : List ℤ) (b : List (List ℤ)) → InBox x b → IsBox b → list_all is_value x ≡ true
values_fit [] [] h i = refl
values_fit [] (d ∷ b) h i = absurd h
values_fit (v ∷ x) [] h i = absurd h
values_fit (v ∷ x) (d ∷ b) h i =
    and_from (is_value v) (list_all is_value x) (value_fits v (each_contains IsCellValue d v i.0.within h.0)) (values_fit x b h.1 i.1)

some_series : (x : List ℤ) → 1 ≤ length x → list_all is_value x ≡ true → is_series x ≡ true
some_series [] some h = absurd (omega (arith, some))
some_series (v ∷ x) some h = h

module _ (m : ModelParts) (whole : IsWhole m) (box : IsBox m.cells) where
  series_fits : (x : List ℤ) → Meets m x → is_series x ≡ true
  series_fits x h =
      let long = series_length x m.cells h.inside in
      let some = whole.some in some_series x (omega (arith, long, some)) (values_fit x m.cells h.inside box)

  all_series_fit : (claim : Claim) (before xs : List (List ℤ)) → AllFit m claim before xs → list_all is_series xs ≡ true
  all_series_fit claim before [] h = refl
  all_series_fit claim before (x ∷ xs) h =
      and_from (is_series x) (list_all is_series xs) (series_fits x h.0.meets) (all_series_fit claim (before ++ x ∷ []) xs h.1)

  all_short : (claim : Claim) (before xs : List (List ℤ)) → AllFit m claim before xs → AllByRecursion (λ (x : List ℤ). length x ≤ most_cells) xs
  all_short claim before [] h = tt
  all_short claim before (x ∷ xs) h =
      let long = series_length x m.cells h.0.meets.inside in
      let few = whole.few in (omega (arith, long, few), all_short claim (before ++ x ∷ []) xs h.1)

-- a tree has a line
some_lines : (t : Tree) → tree_lines t ≡ [] → ⊥
some_lines (Leaf l) e = cc
some_lines (Drop k v j t) e = cc
some_lines (Fork k t lower upper) e = cc

-- the number of the objective is written within 64 bits
objective_fits : (m : ModelParts) (x : List ℤ) (v : Ext) → IsWhole m → IsBox m.cells → Meets m x → objective_of m x ≡ Some v → is_ext v ≡ true
objective_fits m x v whole box meets is =
    let long = series_length x m.cells meets.inside in
    let some = whole.some in
    let few = whole.few in
    value_fits_text m x v (omega (arith, long, some)) (omega (arith, long, few)) (cells_within x m.cells meets.inside box)
    (subst (λ (n : ℕ). AllByRecursion (λ t. LooksInside n t.1.window) m.terms) (sym long) whole.windows) is

-- the claims of solved and of listed certificates are in the grammar

module _ (m : ModelParts) (goal : Goal) (budget : ℕ) (whole : IsWhole m) (box : IsBox m.cells) (c : Cert) (h : IsSolution m (spans_in m) goal budget c) where
  by_claim : (claim : Claim) → c.claim ≡ claim → is_claim (BestOf goal) claim ≡ true
  by_claim (Best v) e =
      let k = subst (λ z. IsSolvedBy (contest_for m (spans_in m) goal) budget z c.series c.tree) e h.claim in
      objective_fits m k.0 v whole box k.2.meets k.3
  by_claim Infeasible e = refl
  by_claim (BudgetBest v) e =
      let k = subst (λ z. IsSolvedBy (contest_for m (spans_in m) goal) budget z c.series c.tree) e h.claim in
      let fit = (subst (λ xs. AllFit m c.claim [] xs) k.1 h.accepts.series).0 in
      objective_fits m k.0 v whole box fit.meets (subst (λ z. IsAsClaimed m z [] k.0) e fit.claimed)
  by_claim BudgetNone e = refl
  by_claim (Full count) e = absurd (subst (λ z. IsSolvedBy (contest_for m (spans_in m) goal) budget z c.series c.tree) e h.claim)
  by_claim (All count) e = absurd (subst (λ z. IsSolvedBy (contest_for m (spans_in m) goal) budget z c.series c.tree) e h.claim)
  by_claim (BudgetList count) e = absurd (subst (λ z. IsSolvedBy (contest_for m (spans_in m) goal) budget z c.series c.tree) e h.claim)

  best_claim : is_claim c.aim c.claim ≡ true
  best_claim = ap (λ a. is_claim a c.claim) h.aim ∙ by_claim c.claim refl

-- a count of series that may be asked for is in the grammar, and so is one that may be listed
asked_aim : (count : ℕ) → IsWithin 1 most_listed count → is_aim (ListOf count) ≡ true
asked_aim count h = and_from (nat_le 1 count) (nat_le count most_listed) (le-leb 1 count h.0) (le-leb count most_listed h.1)

listed_fits : (n : ℕ) → n ≤ most_listed → is_listed n ≡ true
listed_fits n l = and_from (nat_le 0 n) (nat_le n most_listed) (le-leb 0 n (omega arith)) (le-leb n most_listed l)

module _ (m : ModelParts) (count budget : ℕ) (c : Cert) (asked : IsWithin 1 most_listed count) (h : IsListAnswer m (spans_in m) count budget c) where
  by_list_claim : (claim : Claim) → c.claim ≡ claim → is_claim (ListOf count) claim ≡ true
  by_list_claim (Best v) e = absurd (subst (λ z. IsListedBy m count budget z c.series c.tree) e h.claim)
  by_list_claim Infeasible e = absurd (subst (λ z. IsListedBy m count budget z c.series c.tree) e h.claim)
  by_list_claim (BudgetBest v) e = absurd (subst (λ z. IsListedBy m count budget z c.series c.tree) e h.claim)
  by_list_claim BudgetNone e = absurd (subst (λ z. IsListedBy m count budget z c.series c.tree) e h.claim)
  by_list_claim (Full k) e =
      let f = subst (λ z. IsListedBy m count budget z c.series c.tree) e h.claim in
      let same = f.1 in let most = asked.1 in listed_fits k (omega (arith, same, most))
  by_list_claim (All k) e =
      let f = subst (λ z. IsListedBy m count budget z c.series c.tree) e h.claim in
      let less = f.1 in let most = asked.1 in listed_fits k (omega (arith, less, most))
  by_list_claim (BudgetList k) e =
      let f = subst (λ z. IsListedBy m count budget z c.series c.tree) e h.claim in
      let less = f.1 in let most = asked.1 in listed_fits k (omega (arith, less, most))

  list_claim : is_claim c.aim c.claim ≡ true
  list_claim = ap (λ a. is_claim a c.claim) h.aim ∙ by_list_claim c.claim refl

-- the lines of a tree are those that were checked and those that are open
all_lines : (ls : List TreeLine) → length ls ≡ checked_count ls + open_count ls
all_lines [] = refl
all_lines (Split k t ∷ ls) = let more = all_lines ls in omega (arith, more)
all_lines (Remove k v j ∷ ls) = let more = all_lines ls in omega (arith, more)
all_lines (No j p ∷ ls) = let more = all_lines ls in omega (arith, more)
all_lines (Worse p ∷ ls) = let more = all_lines ls in omega (arith, more)
all_lines (Yes ∷ ls) = let more = all_lines ls in omega (arith, more)
all_lines (Unsearched ∷ ls) = let more = all_lines ls in omega (arith, more)

short_certificate : (c : Cert) → length c.series ≤ 4000000 → checked_count c.tree ≤ most_checked → open_count c.tree ≤ most_domain_values →
    length c.series + length c.tree < 2 ^ 62
short_certificate c series checked unsearched = let lines = all_lines c.tree in omega (arith, series, lines, checked, unsearched)

-- a certificate that can be written: it is in the grammar, and has few lines
pub record IsSent (c : Cert) : Type 0 where
  pub within : IsWithinLimits c
  pub few : length c.series + length c.tree < 2 ^ 62

module _ (m : ModelParts) (need : Need) (whole : IsWhole m) (limits : KeepsLimits need m) (c : Cert) (accepts : Accepts m (spans_in m) c)
    (aim : is_aim c.aim ≡ true) (claim : is_claim c.aim c.claim ≡ true) (checked : checked_count c.tree ≤ most_checked)
    (unsearched : open_count c.tree ≤ most_domain_values) where
  is_certificate : IsCertificate c
  is_certificate =
      let steps = to_steps m (spans_in m) (head_of c) m.cells accepts.tree.tree accepts.tree.fits in
      record {
        aim = aim;
        claim = claim;
        listed = accepts.count;
        series = all_series_fit m whole limits.box c.claim [] c.series accepts.series;
        tree = subst (λ ls. list_all is_tree_line ls ≡ true) accepts.tree.lines
            (lines_in_range m (spans_in m) (head_of c) (tree_lines accepts.tree.tree) [] _ limits.box whole.few limits.requirements steps);
        some = λ e. some_lines accepts.tree.tree (accepts.tree.lines ∙ e);
      }

  sent : length c.series ≤ 4000000 → IsSent c
  sent few = record {
    within = record {
      certificate = is_certificate;
      checked = checked;
      unsearched = unsearched;
      series = all_short m whole limits.box c.claim [] c.series accepts.series;
    };
    few = short_certificate c few checked unsearched;
  }

-- at most one series, or as many as were asked for

one_series : (goal : Goal) (budget : ℕ) (m : ModelParts) (c : Cert) → IsSolution m (spans_in m) goal budget c → series_count c.claim ≤ 1
one_series goal budget m c h = go c.claim h.claim
  where
    go : (claim : Claim) → IsSolvedBy (contest_for m (spans_in m) goal) budget claim c.series c.tree → series_count claim ≤ 1
    go (Best v) k = omega arith
    go Infeasible k = omega arith
    go (BudgetBest v) k = omega arith
    go BudgetNone k = omega arith
    go (Full n) k = absurd k
    go (All n) k = absurd k
    go (BudgetList n) k = absurd k

few_series : (count budget : ℕ) (m : ModelParts) (c : Cert) → IsListAnswer m (spans_in m) count budget c → length c.series ≤ count
few_series count budget m c h = go c.claim h.claim
  where
    go : (claim : Claim) → IsListedBy m count budget claim c.series c.tree → length c.series ≤ count
    go (Best v) k = absurd k
    go Infeasible k = absurd k
    go (BudgetBest v) k = absurd k
    go BudgetNone k = absurd k
    go (Full n) k = let a = k.0 in let b = k.1 in omega (arith, a, b)
    go (All n) k = let a = k.0 in let b = k.1 in omega (arith, a, b)
    go (BudgetList n) k = let a = k.0 in let b = k.1 in omega (arith, a, b)

pub best_sent : (m : ModelParts) (goal : Goal) (budget : ℕ) (c : Cert) → IsWhole m → KeepsLimits NeedsBest m → IsWithin 1 most_checked budget →
    IsSolution m (spans_in m) goal budget c → IsSent c
best_sent m goal budget c whole limits asked h =
    let right = are_right m whole limits.box in
    let open_few = solved_opens_few m (spans_in m) goal budget c right (limits.objective refl) h in
    let total = limits.total refl in
    let most = asked.1 in
    let lines = h.within in
    let count = h.accepts.count in
    let one = one_series goal budget m c h in
    sent m NeedsBest whole limits c h.accepts (ap is_aim h.aim) (best_claim m goal budget whole limits.box c h)
    (omega (arith, lines, most)) (omega (arith, open_few, total)) (omega (arith, count, one))

pub list_sent : (m : ModelParts) (count budget : ℕ) (c : Cert) → IsWhole m → KeepsLimits NeedsList m → IsWithin 1 most_listed count →
    IsWithin 1 most_checked budget → IsListAnswer m (spans_in m) count budget c → IsSent c
list_sent m count budget c whole limits wanted asked h =
    let right = are_right m whole limits.box in
    let open_few = listed_opens_few m (spans_in m) count budget c right h in
    let total = limits.total refl in
    let most = asked.1 in
    let lines = h.within in
    let many = few_series count budget m c h in
    let up = wanted.1 in
    sent m NeedsList whole limits c h.accepts (ap is_aim h.aim ∙ asked_aim count wanted) (list_claim m count budget c wanted h)
    (omega (arith, lines, most)) (omega (arith, open_few, total)) (omega (arith, many, up))

-- the lines of its text

pub lines_are_of : (c : Cert) → IsSent c → AreOf (strict_lines (certificate_text c)) c
lines_are_of c s =
    let runs = runs_give Start (cert_lines c) AfterEnd (certificate_runs c s.within.certificate) in
    let count = lines_count c in
    let few = s.few in
    record { certificate = s.within.certificate; are = lines_cut Start (cert_lines c) (omega (arith, count, few)) runs.0 }

-- after the bytes of its model

ended_short : (bytes : List ℕ) → length (end_line bytes) ≤ length bytes + 1
ended_short [] = omega arith
ended_short (b ∷ []) = go (is_lf b)
  where
    go : (v : Bool) → length (cond v (b ∷ []) (b ∷ 10 ∷ [])) ≤ 2
    go true = omega arith
    go false = omega arith
ended_short (b ∷ c ∷ bs) = let later = ended_short (c ∷ bs) in omega (arith, later)

joined_short : (bytes text : List ℕ) → length (verify_input bytes text) ≤ length bytes + 4 + length text
joined_short bytes text =
    let all = length-append (end_line bytes) (codes "%%\n" ++ text) in
    let first = ended_short bytes in
    omega (arith, all, first)

pub goes_to_verify : (m : ModelParts) (need : Need) (c : Cert) → IsWhole m → IsBox m.cells → Accepts m (spans_in m) c → IsSent c → needs_lists need ≡ true →
    (bytes : List ℕ) → length bytes ≤ most_model_bytes → model_reading need bytes ≡ Ok m → GoesToVerify m bytes c
goes_to_verify m need c whole box accepts s lists bytes small read =
    let text = certificate_text c in
    let fits = text_fits c (length bytes) s.within small in
    let halves = joined_halves need lists bytes m read text in
    let offered : IsOffered (verify_input bytes text) m c = record {
      model = ap (λ (h : Halves). model_reading NeedsList h.model) halves ∙ ended_model_read need lists bytes m read;
      certificate = subst (λ (t : List ℕ). AreOf (strict_lines t) c) (sym (ap (λ (h : Halves). unwrap_or h.rest []) halves)) (lines_are_of c s);
    } in
    let short = joined_short bytes text in
    record {
      read = written_read c s.within.certificate s.few;
      fits = fits;
      offered = offered;
      accepted = λ r h. accepted_reply (verify_input bytes text) m c r (omega (arith, short, fits)) offered accepts h;
      holds = accepted_holds m (spans_in m) c box (values_are_sound m (spans_in m) (spans_hold_values m whole)) accepts;
    }
