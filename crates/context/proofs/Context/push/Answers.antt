-- `Context::push` meets its contract.
use native.Mathlib.Omega.{arith}
use Rattle.context.specs.ContextLaws.{push_none, push_two}
use Rattle.context.proofs.Context.push.Goals as goal

pub returns-in-empty : goal.returns-in-empty
returns-in-empty c = push_none c.args.self c.args.chunk.now (omega (arith, c.in-empty.len_below))

pub returns-in-len2-up : goal.returns-in-len2-up
returns-in-len2-up c = push_two c.args.self c.args.chunk.now c.in-len2-up.len_at_least
