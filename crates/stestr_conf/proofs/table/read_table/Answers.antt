use Rattle.std.proofs.Common.{◌≡◌, ◌⊎◌, inl, Ok, Err, IfOk, IfErr, subst, sym}
use Rattle.stestr_conf.specs.Table.{table_of}
use Rattle.stestr_conf.specs.declared.table.TableFault.TheVariants.{NotToml, NoMemory}
use Rattle.stestr_conf.proofs.TableLemmas.{table_read, table_other, exact}
use Rattle.stestr_conf.proofs.table.read_table.Goals as goal

pub returns-in-Ok-clause-values : goal.returns-in-Ok-clause-values
returns-in-Ok-clause-values c =
    subst (λ told. IfOk c.read_text.result (λ values. told ≡ Ok values)) (sym (table_read c.args.text.now c.in-Ok.text.now c.in-Ok.ensures.cases.0 c.in-Ok.ensures.cases.1)) c.read_text.ensures.values

pub returns-in-Ok-clause-refused : goal.returns-in-Ok-clause-refused
returns-in-Ok-clause-refused c =
    subst (λ told. IfErr c.read_text.result (λ fault. (told ≡ Err fault) ⊎ (fault ≡ NoMemory))) (sym (table_read c.args.text.now c.in-Ok.text.now c.in-Ok.ensures.cases.0 c.in-Ok.ensures.cases.1)) c.read_text.ensures.refused

pub returns-in-Ok-clause-exactly : goal.returns-in-Ok-clause-exactly
returns-in-Ok-clause-exactly c =
    exact (table_of c.args.text.now) c.read_text.result
    (subst (λ told. IfOk c.read_text.result (λ values. told ≡ Ok values)) (sym (table_read c.args.text.now c.in-Ok.text.now c.in-Ok.ensures.cases.0 c.in-Ok.ensures.cases.1)) c.read_text.ensures.values)
    (subst (λ told. IfErr c.read_text.result (λ fault. (told ≡ Err fault) ⊎ (fault ≡ NoMemory))) (sym (table_read c.args.text.now c.in-Ok.text.now c.in-Ok.ensures.cases.0 c.in-Ok.ensures.cases.1)) c.read_text.ensures.refused)

pub returns-in-Err-clause-refused : goal.returns-in-Err-clause-refused
returns-in-Err-clause-refused c = inl (table_other c.args.text.now c.in-Err.ensures.cases.0)

pub returns-in-Err-clause-exactly : goal.returns-in-Err-clause-exactly
returns-in-Err-clause-exactly c = exact (table_of c.args.text.now) (Err NotToml) tt (inl (table_other c.args.text.now c.in-Err.ensures.cases.0))
