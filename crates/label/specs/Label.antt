-- What is answered to a label.
use Rattle.std.specs.Prelude.{true, cond, List, ◌++◌, ℕ, ltb, length}
use Rattle.scribe.specs.Text.{ascii, newline}
use Rattle.state.specs.State.{start_of}
use Rattle.state.specs.declared.State.{State}
use Rattle.detector.specs.Feed.{feed_of}
use Rattle.demo.specs.Demo.{demonstration}
use Rattle.sheet.specs.Sheet.{sheet_of}

-- a label's bytes at most
abbrev pub most : ℕ
most = 65536

-- all places in, the label as one closing chunk
unfoldable pub state_of : List ℕ → State
state_of label = (feed_of demonstration (start_of 511) label true).state

unfoldable pub answer_of : List ℕ → List ℕ
answer_of label = cond (ltb most (length label)) (ascii "too long" ++ newline) (sheet_of (state_of label))
