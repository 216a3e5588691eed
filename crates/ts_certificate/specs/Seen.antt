-- What the code holds, as plain data.
use Rattle.std.specs.Prelude.{◌≡◌, Result, Ok, Err}
use Rattle.ts_certificate.specs.declared.certificate.Parsed.{Parsed}
use Rattle.ts_certificate.specs.declared.certificate.Parsed.TheVariants.{Aim, Claim, Series, Tree, End}
use Rattle.ts_certificate.specs.declared.stop.CertStop.{CertStop}
use Rattle.ts_certificate.specs.declared.stop.CertStop.TheVariants.{Text, CountDiffers, Memory as NoMemory}
use Rattle.ts_certificate.specs.declared.stop.LineStop.{LineStop}
use Rattle.ts_certificate.specs.declared.stop.LineStop.TheVariants.{Grammar, Counts, Memory}
use Rattle.ts_certificate.specs.Grammar.{CertLine, SaysAim, SaysClaim, SaysSeries, SaysTree, SaysEnd}

-- a line that was read, its numbers as a list
abbrev pub line_seen : Parsed → CertLine
line_seen (Aim a) = SaysAim a
line_seen (Claim c) = SaysClaim c
line_seen (Series vs) = SaysSeries vs.items
line_seen (Tree l) = SaysTree l
line_seen (End checked unsearched) = SaysEnd checked unsearched

-- the result is what the grammar gives, unless memory ran out
abbrev pub Gives : {X Y : Type 0} → (X → Y) → Result X LineStop → Result Y LineStop → Type 0
Gives view (Ok x) read = read ≡ Ok (view x)
Gives view (Err Grammar) read = read ≡ Err Grammar
Gives view (Err (Counts said found)) read = read ≡ Err (Counts said found)
Gives view (Err Memory) read = Unit {0}

-- a reader's answer is what the grammar gives, unless memory ran out
abbrev pub Tells : {X Y : Type 0} → (X → Y) → Result X CertStop → Result Y CertStop → Type 0
Tells view (Ok x) read = read ≡ Ok (view x)
Tells view (Err (Text line)) read = read ≡ Err (Text line)
Tells view (Err (CountDiffers line said found)) read = read ≡ Err (CountDiffers line said found)
Tells view (Err NoMemory) read = Unit {0}
