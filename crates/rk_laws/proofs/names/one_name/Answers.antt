use Rattle.rk_bytes.proofs.Callers.Names.{name_of-printed, printed-name_of}
use Rattle.rk_laws.proofs.names.one_name.Goals as goal

pub returns-clause-read : goal.returns-clause-read
returns-clause-read c = name_of-printed

pub returns-clause-printed : goal.returns-clause-printed
returns-clause-printed c = printed-name_of
