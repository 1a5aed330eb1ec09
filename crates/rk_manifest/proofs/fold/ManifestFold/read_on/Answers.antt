use Rattle.rk_manifest.proofs.FoldLemmas.{reads_on, fed_block}
use Rattle.rk_manifest.proofs.fold.ManifestFold.read_on.Goals as goal

pub returns-clause-fed : goal.returns-clause-fed
returns-clause-fed c = λ bytes fed. fed_block c.args.self.now _ bytes c.args.block.now c.args.last (reads_on c.args.self.now.reading c.requires.reads) c.take_block-self.ensures.taken fed
