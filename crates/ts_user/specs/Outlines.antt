-- What decides if an expression that is read from its end is one: the front of the innermost bracket level, and how
-- many levels are open around it.
use Rattle.std.specs.Prelude.{ℕ, zero, suc, ◌+◌, ◌==◌, Bool, false, length, Option, Some, None}
use Rattle.ts_regex.specs.Shape.{Shape}
use Rattle.ts_user.specs.declared.symbol.Symbol.{Symbol}
use Rattle.ts_user.specs.declared.symbol.Symbol.TheVariants.{Sign, Open, Close, Repeated, Or}
use Rattle.ts_user.specs.declared.symbol.Repeat.{Repeat as RepeatSign}
use Rattle.ts_user.specs.declared.outline.Front.{Front}
use Rattle.ts_user.specs.declared.outline.Front.TheVariants.{Blank, Repeat, Atom}
use Rattle.ts_user.specs.declared.outline.Outline.{Outline}
use Rattle.ts_user.specs.FromTheEnd.{Levels}

abbrev pub front_by : Option RepeatSign → Option (Option Shape) → Front
front_by (Some sign) sequence = Repeat
front_by None (Some part) = Atom
front_by None None = Blank

-- the outline of bracket levels
abbrev pub outline_of : Levels → Outline
outline_of x = record { front = front_by x.inner.repeat x.inner.sequence; depth = length x.outer }

abbrev pub blank_outline : Outline
blank_outline = record { front = Blank; depth = 0 }

abbrev pub open_outlined : Front → ℕ → Option Outline
open_outlined Atom (suc n) = Some (record { front = Atom; depth = n })
open_outlined Atom zero = None
open_outlined Blank n = None
open_outlined Repeat n = None

abbrev pub repeat_outlined : Front → ℕ → Option Outline
repeat_outlined Repeat n = None
repeat_outlined Atom n = Some (record { front = Repeat; depth = n })
repeat_outlined Blank n = Some (record { front = Repeat; depth = n })

abbrev pub or_outlined : Front → ℕ → Option Outline
or_outlined Atom n = Some (record { front = Blank; depth = n })
or_outlined Blank n = None
or_outlined Repeat n = None

-- the outline after one symbol more, or None where it can't stand there
abbrev pub outline_read : Symbol → Outline → Option Outline
outline_read (Sign l) x = Some (record { front = Atom; depth = x.depth })
outline_read Close x = Some (record { front = Blank; depth = x.depth + 1 })
outline_read Open x = open_outlined x.front x.depth
outline_read (Repeated sign) x = repeat_outlined x.front x.depth
outline_read Or x = or_outlined x.front x.depth

abbrev pub byte_outlined : Option Symbol → Outline → Option Outline
byte_outlined None x = None
byte_outlined (Some symbol) x = outline_read symbol x

abbrev pub whole_by : Front → ℕ → Bool
whole_by Atom n = n == 0
whole_by Blank n = false
whole_by Repeat n = false

-- all that was read is an expression
abbrev pub is_whole : Outline → Bool
is_whole x = whole_by x.front x.depth
