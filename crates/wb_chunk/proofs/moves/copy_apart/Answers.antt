use Rattle.std.proofs.Common.{◌+◌, ◌-◌, arith}
use Rattle.wb_chunk.proofs.MovedWords.{copied-before}
use Rattle.wb_chunk.proofs.moves.copy_apart.Goals as goal

pub returns-else-from-to : goal.returns-else-from-to
returns-else-from-to c =
    let parts = c.split_at_mut-targets.result in
    copied-before c.args.words.now parts.0.now parts.1.now c.copy_from_slice-else-from-to.new.self c.args.from c.args.to c.args.n (c.args.to + c.args.n - c.args.to)
    c.split_at_mut-targets.ensures.front c.split_at_mut-targets.ensures.back (omega arith) (omega (arith, c.requires.apart, c.if-from-to.false)) c.requires.source c.copy_from_slice-else-from-to.ensures.after
