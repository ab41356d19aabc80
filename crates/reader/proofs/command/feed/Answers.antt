-- `feed` meets its contract.
use native.Mathlib.Omega.{arith}
use Rattle.reader.specs.Ways.{feed_short, feed_bad, feed_long, feed_more, feed_whole}
use Rattle.reader.proofs.command.feed.Goals as goal

pub returns-then-bytes-lt-HEAD : goal.returns-then-bytes-lt-HEAD
returns-then-bytes-lt-HEAD c = feed_short _ (omega arith)

pub returns-then-bytes-gt1 : goal.returns-then-bytes-gt1
returns-then-bytes-gt1 c = feed_bad _ (omega arith) (omega arith)

pub returns-then-length-gt-CHUNK : goal.returns-then-length-gt-CHUNK
returns-then-length-gt-CHUNK c = feed_long _ _ (omega arith) (omega arith) c.at-length.ensures (omega arith)

pub returns-then-bytes-length : goal.returns-then-bytes-length
returns-then-bytes-length c = feed_more _ _ (omega arith) (omega arith) c.at-length.ensures (omega arith) (omega arith)

pub returns : goal.returns
returns c = feed_whole _ _ (omega arith) (omega arith) c.at-length.ensures (omega arith) (omega arith)
