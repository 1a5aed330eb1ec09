use Rattle.rk_laws.proofs.EditFields.{edit_fields_ok, edit_fields-edit}
use Rattle.rk_laws.proofs.edit.one_edit.Goals as goal

pub returns-clause-read : goal.returns-clause-read
returns-clause-read c = λ bytes fields are. (edit_fields_ok bytes fields are, edit_fields-edit bytes fields)

pub returns-clause-unique : goal.returns-clause-unique
returns-clause-unique c = λ bytes fields others is also.
    let first = edit_fields-edit bytes fields is in
    let second = edit_fields-edit bytes others also in
    cc
