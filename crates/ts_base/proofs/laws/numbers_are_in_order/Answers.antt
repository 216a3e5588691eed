use Rattle.ts_base.proofs.Order.{total_order, max_is_greater, min_is_lesser}
use Rattle.ts_base.proofs.SpanLaws.{plus_mono}
use Rattle.ts_base.proofs.laws.numbers_are_in_order.Goals as goal

pub returns-clause-order : goal.returns-clause-order
returns-clause-order c = total_order

pub returns-clause-greater : goal.returns-clause-greater
returns-clause-greater c = max_is_greater

pub returns-clause-lesser : goal.returns-clause-lesser
returns-clause-lesser c = min_is_lesser

pub returns-clause-sum : goal.returns-clause-sum
returns-clause-sum c = plus_mono
