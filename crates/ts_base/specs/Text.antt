-- How lines and numbers are written.
use Rattle.std.specs.Prelude.{ℕ, List, [], ◌∷◌, ◌++◌, codes}
use Rattle.std.specs.Fmt.{signed_decimal}
use Rattle.ts_base.specs.declared.ext.Ext.{Ext}
use Rattle.ts_base.specs.declared.ext.Ext.TheVariants.{NegInf, Int, PosInf}

-- the text with its LF
abbrev pub line : List ℕ → List ℕ
line text = text ++ 10 ∷ []

-- the decimal number, `-inf` or `+inf`
abbrev pub ext_text : Ext → List ℕ
ext_text NegInf = codes "-inf"
ext_text (Int n) = signed_decimal n
ext_text PosInf = codes "+inf"
