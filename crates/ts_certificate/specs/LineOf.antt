-- What a line says, read from its words.
use Rattle.std.specs.Prelude.{ℕ, codes, ◌+◌, ◌==◌, List, if◌then◌else◌, Option, Some, None, Result, Ok, Err}
use Rattle.std.specs.Str.{bytes_eq}
use Rattle.ts_base.specs.Words.{Words, without_lf, words_of}
use Rattle.ts_certificate.specs.declared.state.State.{State}
use Rattle.ts_certificate.specs.declared.state.State.TheVariants.{Start, AfterAim, InSeries, InTree, AfterEnd}
use Rattle.ts_certificate.specs.declared.stop.LineStop.{LineStop}
use Rattle.ts_certificate.specs.declared.stop.LineStop.TheVariants.{Grammar, Counts}
use Rattle.ts_certificate.specs.Grammar.{CertLine, SaysAim, SaysClaim, SaysSeries, SaysTree, SaysEnd}
use Rattle.ts_certificate.specs.HeadLines.{aim_of, claim_of, series_of}
use Rattle.ts_certificate.specs.Ranges.{whole_of}
use Rattle.ts_certificate.specs.TreeLines.{tree_of}
use Rattle.ts_certificate.specs.WordCounts.{two_of}

-- words that say nothing are against the grammar
abbrev pub as_line : {X : Type 0} → (X → CertLine) → Option X → Result CertLine LineStop
as_line f None = Err Grammar
as_line f (Some x) = Ok (f x)

abbrev pub end_made : Option ℕ → Option ℕ → Option (ℕ × ℕ)
end_made None o = None
end_made (Some l) None = None
end_made (Some l) (Some o) = Some (l, o)

abbrev pub end_from : Option (List ℕ × List ℕ) → Option (ℕ × ℕ)
end_from None = None
end_from (Some p) = end_made (whole_of p.0) (whole_of p.1)

-- the two numbers of an end line
abbrev pub end_of : List (List ℕ) → Option (ℕ × ℕ)
end_of ws = end_from (two_of ws)

-- an end line after these counts: the first of its numbers that differs is reported beside its count
abbrev pub end_or_stop : ℕ → ℕ → Option (ℕ × ℕ) → Result CertLine LineStop
end_or_stop c u None = Err Grammar
end_or_stop c u (Some e) =
    if c + u == 0 then Err Grammar
    else (if e.0 == c then (if e.1 == u then Ok (SaysEnd e.0 e.1) else Err (Counts e.1 u))
    else Err (Counts e.0 c))

abbrev pub tree_or_end : ℕ → ℕ → Words → Result CertLine LineStop
tree_or_end c u w =
    if bytes_eq w.first (codes "end") then end_or_stop c u (end_of w.more)
    else as_line SaysTree (tree_of w)

abbrev pub line_of_words : State → Words → Result CertLine LineStop
line_of_words Start w = as_line SaysAim (aim_of w)
line_of_words (AfterAim a) w = as_line SaysClaim (claim_of a w)
line_of_words (InSeries n) w = as_line SaysSeries (series_of w)
line_of_words (InTree c u) w = tree_or_end c u w
line_of_words AfterEnd w = Err Grammar

abbrev pub line_if : State → Option (List ℕ) → Result CertLine LineStop
line_if s None = Err Grammar
line_if s (Some line) = line_of_words s (words_of line)

-- what a line with its LF says where the certificate stands, or why it stops the reading
abbrev pub line_of : State → List ℕ → Result CertLine LineStop
line_of s text = line_if s (without_lf text)
