-- Registers that are numbers, and spans of numbers, have the kinds of every state.
use Rattle.std.proofs.Common.{rules, inr}
use Rattle.std.specs.Prelude.{◌<◌, ℕ, ℤ, length}
use Rattle.ts_base.specs.declared.ext.Ext.{Ext}
use Rattle.ts_base.specs.declared.ext.Ext.TheVariants.{NegInf, Int, PosInf}
use Rattle.ts_base.specs.declared.span.Span.{Span}
use Rattle.ts_automaton.specs.declared.kind.RegKind.{RegKind}
use Rattle.ts_automaton.specs.declared.kind.RegKind.TheVariants.{Int as Whole}
use Rattle.ts_automaton.specs.AutomatonRun.{Stands}
use Rattle.ts_automaton.specs.Body.{Body}
use Rattle.ts_automaton.specs.Kinds.{HasKind, SpanHasKind}
use Rattle.ts_automaton.specs.Registers.{each}
use Rattle.ts_automaton.specs.SpanRun.{HullStands}

pub numbers_stand : (b : Body) (q : ℕ) (c e d f r : ℤ) → q < length b.states →
    Stands b (record { state = q; regs = each (Int c) (Int e) (Int d) (Int f) (Int r) })
numbers_stand b q c e d f r is = record { exists = is; kinds = (search rules, search rules, search rules, search rules, search rules) }

any_kind : (k : RegKind) (e : Ext) → HasKind Whole e → HasKind k e
any_kind k NegInf p = cc
any_kind k (Int x) p = search rules
any_kind k PosInf p = cc

span_kind : (k : RegKind) (s : Span) → SpanHasKind Whole s → SpanHasKind k s
span_kind k s p = (p.0, any_kind k s.lo p.1, any_kind k s.hi p.2)

pub spans_stand : (b : Body) (q : ℕ) (c e d f r : Span) → q < length b.states → SpanHasKind Whole c → SpanHasKind Whole e → SpanHasKind Whole d →
    SpanHasKind Whole f → SpanHasKind Whole r → HullStands b (record { state = q; regs = each c e d f r })
spans_stand b q c e d f r is hc he hd hf hr =
    record { exists = is; kinds = inr (span_kind _ c hc, span_kind _ e he, span_kind _ d hd, span_kind _ f hf, span_kind _ r hr) }
