-- A certificate's text as bytes: it is cut at its LFs into the texts of its lines.
use Rattle.std.proofs.Common.{◌≡◌, ◌≢◌, ℕ, suc, ◌^◌, ◌<◌, ◌≤◌, ◌+◌, Option, Some, None, Ok, Err, List, [], ◌∷◌, ◌++◌, length, map, refl, sym, ap, ◌∙◌, arith}
use Rattle.std.specs.Prelude.{ℤ, Result}
use Rattle.std.specs.List.{concat}
use Rattle.std.proofs.lemmas.List.{length-append, length-map}
use Rattle.ts_base.specs.Words.{strict_lines, behind}
use Rattle.ts_certificate.specs.declared.certificate.TreeLine.{TreeLine}
use Rattle.ts_certificate.specs.declared.stop.LineStop.{LineStop}
use Rattle.ts_certificate.specs.declared.stop.CertStop.{CertStop}
use Rattle.ts_certificate.specs.declared.stop.CertStop.TheVariants.{Text}
use Rattle.ts_certificate.specs.declared.state.State.{State}
use Rattle.ts_certificate.specs.declared.state.State.TheVariants.{Start, AfterAim, InSeries, InTree, AfterEnd}
use Rattle.ts_certificate.specs.Grammar.{CertLine, SaysAim, SaysClaim, SaysSeries, SaysTree, SaysEnd, line_words, line_text, next_state, state_after}
use Rattle.ts_certificate.specs.Reading.{tree_lines, stop_at, Reading, fresh, reading_by, reading_unless, reading_with, reading_after, answer_unless, answer_to, answers_to, end_stop_at, end_stop_unless, end_stop}
use Rattle.ts_certificate.specs.FirstStop.{MayFollow, IsFirst, AreLines, IsRead}
use Rattle.ts_certificate.specs.Certificate.{Cert, end_line, cert_lines, lines_text, certificate_text, IsCertificate, ReadsAs, IsText}
use Rattle.ts_base.proofs.WordLaws.{line_first, lines_are, lines_few, words_no_lf}
use Rattle.ts_certificate.proofs.LineLaws.{line_solid}
use Rattle.ts_certificate.proofs.StopLaws.{one_line}
use Rattle.ts_certificate.proofs.ReadingLaws.{moved_few, at_line, reading_is, lines_again}
use Rattle.ts_certificate.proofs.CertificateLaws.{runs_from, runs_give, certificate_runs, runs_certificate}

pub lines_cut : (s : State) (ls : List CertLine) → tree_lines s + length ls < 2 ^ 63 → MayFollow s ls → strict_lines (lines_text ls) ≡ map line_text ls
lines_cut s [] few h = refl
lines_cut s (l ∷ ls) few h =
    line_first ((line_words l).first ++ behind (line_words l).more) (lines_text ls) (words_no_lf (line_words l) (line_solid s l (omega (arith, few)) h.0))
    ∙ ap (λ (x : List (List ℕ)). line_text l ∷ x) (lines_cut (next_state s l) ls (let more = moved_few s l in omega (arith, few, more)) h.1)

mapped : (ls : List CertLine) → length (map line_text ls) ≡ length ls
mapped [] = refl
mapped (l ∷ ls) = ap suc (mapped ls)

pub lines_count : (c : Cert) → length (cert_lines c) ≡ length c.series + length c.tree + 3
lines_count c =
    let e = length-append (map SaysSeries c.series) (map SaysTree c.tree ++ end_line c.tree ∷ []) in
    let f = length-append (map SaysTree c.tree) (end_line c.tree ∷ []) in
    let g : length (map SaysSeries c.series) ≡ length c.series = simp length-map in
    let h : length (map SaysTree c.tree) ≡ length c.tree = simp length-map in
    omega (arith, e, f, g, h)

few_lines : (c : Cert) → length c.series + length c.tree < 2 ^ 62 → 0 + length (cert_lines c) < 2 ^ 63
few_lines c few = let e = lines_count c in omega (arith, e, few)

-- what is written is read
pub written_read : (c : Cert) → IsCertificate c → length c.series + length c.tree < 2 ^ 62 → ReadsAs (certificate_text c) c
written_read c h few =
    let runs = runs_give Start (cert_lines c) AfterEnd (certificate_runs c h) in
    let cut = lines_cut Start (cert_lines c) (few_lines c few) runs.0 in
    let answers = lines_again Start 1 (cert_lines c) (few_lines c few) runs.0 in
    record {
      whole = ap (λ (x : List (List ℕ)). end_stop (reading_after fresh x)) cut ∙ ap end_stop answers.0
          ∙ ap (λ (s : State). end_stop (at_line s (1 + length (cert_lines c)))) runs.1;
      lines = ap (answers_to fresh) cut ∙ answers.1;
    }

-- a reading to its end
ended_stand : (n : ℕ) (s : State) → end_stop_at n s ≡ None → s ≡ AfterEnd
ended_stand n Start h = cc
ended_stand n (AfterAim a) h = cc
ended_stand n (InSeries m) h = cc
ended_stand n (InTree c u) h = cc
ended_stand n AfterEnd h = refl

whole_lines : (text : List ℕ) (r : Reading) (o : Option CertStop) → IsRead Start 1 (strict_lines text) r o → end_stop_unless r o ≡ None →
    AreLines Start 1 (strict_lines text) r × (r.state ≡ AfterEnd)
whole_lines text r (Some stop) is h = cc
whole_lines text r None is h = (is, ended_stand r.next r.state h)

pub read_written : (text : List ℕ) → length text < 2 ^ 62 → end_stop (reading_after fresh (strict_lines text)) ≡ None → (c : Cert) × IsText text c
read_written text few h =
    let small = lines_few text in
    let reading = reading_is (strict_lines text) (omega (arith, few, small)) in
    let lines = whole_lines text (reading_after fresh (strict_lines text)) (reading_after fresh (strict_lines text)).stop reading h in
    let is = lines.0 in
    let cert = runs_certificate is.lines (runs_from Start is.lines AfterEnd is.follow (sym is.state ∙ lines.1)) in
    let same = cert.2 in
    let count : length (strict_lines text) ≡ length is.lines = ap length is.are ∙ mapped is.lines in
    let answers = lines_again Start 1 is.lines (omega (arith, few, small, count)) is.follow in (
      cert.0,
      record {
        certificate = cert.1;
        written = sym (lines_are text) ∙ ap concat is.are ∙ ap lines_text same;
        read = record { whole = h; lines = ap (answers_to fresh) is.are ∙ answers.1 ∙ ap (λ (x : List CertLine). map Ok x) same };
      },
    )

-- the certificate of its lines
abbrev series_in : List CertLine → List (List ℤ)
series_in [] = []
series_in (SaysAim a ∷ ls) = series_in ls
series_in (SaysClaim d ∷ ls) = series_in ls
series_in (SaysSeries vs ∷ ls) = vs ∷ series_in ls
series_in (SaysTree l ∷ ls) = series_in ls
series_in (SaysEnd p o ∷ ls) = series_in ls

abbrev tree_in : List CertLine → List TreeLine
tree_in [] = []
tree_in (SaysAim a ∷ ls) = tree_in ls
tree_in (SaysClaim d ∷ ls) = tree_in ls
tree_in (SaysSeries vs ∷ ls) = tree_in ls
tree_in (SaysTree l ∷ ls) = l ∷ tree_in ls
tree_in (SaysEnd p o ∷ ls) = tree_in ls

no_series : (ts : List TreeLine) (e : List TreeLine) → series_in (map SaysTree ts ++ end_line e ∷ []) ≡ []
no_series [] e = refl
no_series (t ∷ ts) e = no_series ts e

all_series : (xs : List (List ℤ)) (ts : List TreeLine) → series_in (map SaysSeries xs ++ (map SaysTree ts ++ end_line ts ∷ [])) ≡ xs
all_series [] ts = no_series ts ts
all_series (x ∷ xs) ts = ap (λ (y : List (List ℤ)). x ∷ y) (all_series xs ts)

all_tree : (ts : List TreeLine) (e : List TreeLine) → tree_in (map SaysTree ts ++ end_line e ∷ []) ≡ ts
all_tree [] e = refl
all_tree (t ∷ ts) e = ap (λ (y : List TreeLine). t ∷ y) (all_tree ts e)

only_tree : (xs : List (List ℤ)) (ts : List TreeLine) → tree_in (map SaysSeries xs ++ (map SaysTree ts ++ end_line ts ∷ [])) ≡ ts
only_tree [] ts = all_tree ts ts
only_tree (x ∷ xs) ts = only_tree xs ts

one_cert : (c d : Cert) → c.aim ≡ d.aim → c.claim ≡ d.claim → c.series ≡ d.series → c.tree ≡ d.tree → c ≡ d
one_cert c d e f g h =
    ap (λ x. record { aim = x; claim = c.claim; series = c.series; tree = c.tree }) e
    ∙ ap (λ x. record { aim = d.aim; claim = x; series = c.series; tree = c.tree }) f
    ∙ ap (λ (x : List (List ℤ)). record { aim = d.aim; claim = d.claim; series = x; tree = c.tree }) g
    ∙ ap (λ (x : List TreeLine). record { aim = d.aim; claim = d.claim; series = d.series; tree = x }) h

same_lines : (c d : Cert) → cert_lines c ≡ cert_lines d → c ≡ d
same_lines c d e =
    let aim : c.aim ≡ d.aim = cc in
    let claim : c.claim ≡ d.claim = cc in
    one_cert c d aim claim (sym (all_series c.series c.tree) ∙ ap series_in e ∙ all_series d.series d.tree)
    (sym (only_tree c.series c.tree) ∙ ap tree_in e ∙ only_tree d.series d.tree)

abbrev okays : List (Result CertLine CertStop) → List CertLine
okays [] = []
okays (Ok l ∷ rs) = l ∷ okays rs
okays (Err e ∷ rs) = okays rs

all_okay : (ls : List CertLine) → okays (map Ok ls) ≡ ls
all_okay [] = refl
all_okay (l ∷ ls) = ap (λ (x : List CertLine). l ∷ x) (all_okay ls)

-- one value for a text
pub one_value : (c d : Cert) → IsCertificate c → IsCertificate d → length c.series + length c.tree < 2 ^ 62 → length d.series + length d.tree < 2 ^ 62 →
    certificate_text c ≡ certificate_text d → c ≡ d
one_value c d h k few less e =
    let first = (written_read c h few).lines in
    let second = (written_read d k less).lines in
    same_lines c d (sym (all_okay (cert_lines c)) ∙ ap okays (sym first ∙ ap (λ (t : List ℕ). answers_to fresh (strict_lines t)) e ∙ second)
    ∙ all_okay (cert_lines d))

-- the first line that is none of a certificate is the one that is told
reading_after-append : (r : Reading) (xs ys : List (List ℕ)) → reading_after r (xs ++ ys) ≡ reading_after (reading_after r xs) ys
reading_after-append r [] ys = refl
reading_after-append r (x ∷ xs) ys = reading_after-append (reading_with r x) xs ys

stop_stays : (s : State) (n : ℕ) (stop : CertStop) (texts : List (List ℕ)) →
    (reading_after (record { state = s; next = n; stop = Some stop }) texts).stop ≡ Some stop
stop_stays s n stop [] = refl
stop_stays s n stop (text ∷ texts) = stop_stays s n stop texts

few_before : (s : State) (ls : List CertLine) → tree_lines (state_after s ls) ≤ tree_lines s + length ls
few_before s [] = omega arith
few_before s (l ∷ ls) = let more = moved_few s l in let later = few_before (next_state s l) ls in omega (arith, more, later)

pub first_told : (texts : List (List ℕ)) (stop : CertStop) → length texts < 2 ^ 63 → IsFirst Start 1 texts stop → (reading_after fresh texts).stop ≡ Some stop
first_told texts stop few is =
    let size = ap length is.parts ∙ length-append (map line_text is.before) (is.text ∷ is.after) in
    let count = mapped is.before in
    let less : 0 + length is.before < 2 ^ 63 = omega (arith, few, size, count) in
    let small = few_before Start is.before in
    let answers = lines_again Start 1 is.before less is.follow in
    let line = one_line (state_after Start is.before) is.text (Err is.why) (omega (arith, less, small)) is.line in
    ap (λ (x : List (List ℕ)). (reading_after fresh x).stop) is.parts
    ∙ ap (λ (r : Reading). r.stop) (reading_after-append fresh (map line_text is.before) (is.text ∷ is.after))
    ∙ ap (λ (r : Reading). (reading_after r (is.text ∷ is.after)).stop) answers.0
    ∙ ap (λ (g : Result CertLine LineStop). (reading_after (reading_by (at_line (state_after Start is.before) (1 + length is.before)) g) is.after).stop) line
    ∙ stop_stays (state_after Start is.before) (1 + length is.before) (stop_at (1 + length is.before) is.why) is.after
    ∙ ap (λ (s : CertStop). Some s) (sym is.is)

-- an end that is missing counts as the line after the last
lines_at : (texts : List (List ℕ)) (r : Reading) (o : Option CertStop) → o ≡ None → IsRead Start 1 texts r o → AreLines Start 1 texts r
lines_at texts r None e h = h
lines_at texts r (Some stop) e h = cc

open_end : (n : ℕ) (s : State) → s ≢ AfterEnd → end_stop_at n s ≡ Some (Text n)
open_end n Start h = refl
open_end n (AfterAim a) h = refl
open_end n (InSeries m) h = refl
open_end n (InTree c u) h = refl
open_end n AfterEnd h = absurd (h refl)

pub missing_end : (texts : List (List ℕ)) → length texts < 2 ^ 63 → (reading_after fresh texts).stop ≡ None → (reading_after fresh texts).state ≢ AfterEnd →
    end_stop (reading_after fresh texts) ≡ Some (Text (length texts + 1))
missing_end texts few none before =
    let r = reading_after fresh texts in
    let is = lines_at texts r r.stop none (reading_is texts few) in
    let count : length texts ≡ length is.lines = ap length is.are ∙ mapped is.lines in
    let next = is.next in
    let place : r.next ≡ length texts + 1 = omega (arith, count, next) in
    ap (end_stop_unless r) none ∙ open_end r.next r.state before ∙ ap (λ (k : ℕ). Some (Text k)) place

-- a stop stays
pub stop_kept : (r : Reading) (stop : CertStop) (text : List ℕ) → r.stop ≡ Some stop →
    (answer_to r text ≡ Err stop) × (reading_with r text ≡ r) × (end_stop r ≡ Some stop)
stop_kept r stop text h = (
  ap (λ (o : Option CertStop). answer_unless r o text) h,
  ap (λ (o : Option CertStop). reading_unless r o text) h,
  ap (λ (o : Option CertStop). end_stop_unless r o) h,
)
