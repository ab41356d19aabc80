-- The state of a stream: what is known of its bytes, and its start.
use Rattle.std.specs.Prelude.{Bool, false, cond, ◌||◌, [], ℕ, ◌^◌, ltb}
use Rattle.context.specs.Context.{context_of}
use Rattle.tables.specs.Own.{place_count}
use Rattle.places.specs.Slate as slate
use Rattle.state.specs.declared.Started.{Started}
use Rattle.state.specs.declared.State.{State}
use Rattle.state.specs.declared.front.Front.{Front}
use Rattle.state.specs.declared.reply.StartReply.TheVariants.{Accepted, NoSuchPlace}

abbrev pub fresh : Front
fresh = record { context = context_of []; esc_seen = false; non_ascii_seen = 0; closed = false; bytes = 0; body = 0 }

-- whether any non-ASCII byte has reached the places so far
abbrev pub flag_of : Front → Bool
flag_of f = ltb 0 f.non_ascii_seen

abbrev pub triggered : Front → Bool
triggered f = f.esc_seen || flag_of f

-- bit k of a start says whether place k takes part
abbrev pub start_of : ℕ → State
start_of bits = record { front = fresh; places = slate.start_of bits }

-- sixteen bits come. Where one is set that no place has, the start is refused, and no place takes part
unfoldable pub started_of : ℕ → Started
started_of bits =
    cond (ltb bits (2 ^ place_count)) (record { state = start_of bits; reply = Accepted })
    (record { state = start_of 0; reply = NoSuchPlace })
