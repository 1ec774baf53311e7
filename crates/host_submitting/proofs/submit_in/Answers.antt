-- `host_submitting::submit_in` meets its contract: what the code tests is the table.
use Rattle.std.proofs.Common.{rules}
use Rattle.command.specs.Promises.{fields_of}
use Rattle.host_answers.proofs.Calls.{meets, sound_of}
use Rattle.host_submitting.proofs.Joining.{submit_table}
use Rattle.host_submitting.proofs.submit_in.Goals as goal

pub returns-in-Err : goal.returns-in-Err
returns-in-Err c =
    let a = c.args in
    let table = submit_table a.e a.store.now (fields_of a.fields) a.«data».now a.wanted a.clock c.well_formed.0.1.1.0.1.1.0.1.0.1 in
    search rules

pub returns-in-Ok : goal.returns-in-Ok
returns-in-Ok c =
    let a = c.args in
    let table = submit_table a.e a.store.now (fields_of a.fields) a.«data».now a.wanted a.clock c.well_formed.0.1.1.0.1.1.0.1.0.1 in
    search (rules, meets, sound_of)
