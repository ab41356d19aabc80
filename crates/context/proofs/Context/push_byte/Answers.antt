-- `Context::push_byte` meets its contract.
use native.Mathlib.Omega.{arith}
use Rattle.context.specs.ContextLaws.{push_first, push_second, push_third}
use Rattle.context.proofs.Context.push_byte.Goals as goal

pub returns-in-0 : goal.returns-in-0
returns-in-0 c = push_first c.args.self c.args.b c.in-0.is

pub returns-in-1 : goal.returns-in-1
returns-in-1 c = push_second c.args.self c.args.b c.in-1.is

pub returns-in_default : goal.returns-in_default
returns-in_default c = push_third c.args.self c.args.b (omega arith)
