use Rattle.run.proofs.Settling.{bit_word, xor_other}
use Rattle.run.proofs.blocks.cleaned.Goals as goal

pub returns : goal.returns
returns c b h m = rw (bit_word c.args.block c.requires) (xor_other c.args.word c.args.block h m)
