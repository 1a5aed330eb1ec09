-- What is read of an internal key, as the definition of internal keys has it.
use Rattle.std.specs.Prelude.{ℕ, Result, Ok, Err, ok_or}
use Rattle.rk_bytes.specs.declared.model.key.Kind.{Kind}
use Rattle.rk_bytes.specs.declared.model.key.KeyFault.{KeyFault}
use Rattle.rk_bytes.specs.Model.InternalKey.{KeyParts, kind_of, kind_fault}
use Rattle.rk_ikey.specs.declared.key.ParsedKey.{ParsedKey}

-- the parts that were read, or the fault
abbrev pub parsed : Result ParsedKey KeyFault → Result KeyParts KeyFault
parsed (Ok key) = Ok (record { user = key.user.now; sequence = key.sequence; kind = key.kind })
parsed (Err fault) = Err fault

-- the kind with this number, or its fault
abbrev pub kind_or_fault : ℕ → Result Kind KeyFault
kind_or_fault number = ok_or (kind_of number) (kind_fault number)
