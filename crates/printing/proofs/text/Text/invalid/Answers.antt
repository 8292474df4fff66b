-- `Text::invalid` meets its contract. Assumes nothing.
use Rattle.std.proofs.Common.{◌+◌, ◌*◌, take, arith}
use Rattle.semantics.specs.Printing.{printed_for}
use Rattle.printing.proofs.LineLaws.{on, invalid_length}
use Rattle.printing.proofs.text.Text.invalid.Goals as goal

pub word-requires : goal.word-requires
word-requires c = record { fits = omega (arith, invalid_length c.args.c c.args.l (take (1 + 2 * c.args.l) c.args.trace.now)) }

pub behind_space-requires : goal.behind_space-requires
behind_space-requires c = record { fits = omega (arith, invalid_length c.args.c c.args.l (take (1 + 2 * c.args.l) c.args.trace.now)) }

pub behind_space-requires-2 : goal.behind_space-requires-2
behind_space-requires-2 c = record { fits = omega (arith, invalid_length c.args.c c.args.l (take (1 + 2 * c.args.l) c.args.trace.now)) }

pub push-requires : goal.push-requires
push-requires c = record { fits = omega (arith, invalid_length c.args.c c.args.l (take (1 + 2 * c.args.l) c.args.trace.now)) }

pub trace-requires : goal.trace-requires
trace-requires c = record { fits = omega (arith, invalid_length c.args.c c.args.l (take (1 + 2 * c.args.l) c.args.trace.now)) }

pub push-requires-2 : goal.push-requires-2
push-requires-2 c = record { fits = omega (arith, invalid_length c.args.c c.args.l (take (1 + 2 * c.args.l) c.args.trace.now)) }

pub returns : goal.returns
unfolding printed_for
returns c = on (on (on (on (on c.word.ensures c.behind_space.ensures) c.behind_space-2.ensures) c.push.ensures) c.trace.ensures) c.push-2.ensures
