use Rattle.cmm_image.proofs.MigratingLaws.{only_so, refused_so}
use Rattle.cmm_image.proofs.migrating.migrate.Goals as goal

pub returns-clause-only : goal.returns-clause-only
returns-clause-only c = only_so (λ v. v.items) c.args.bytes.now c.migrated.result c.migrated.ensures.ok c.migrated.ensures.err

pub returns-clause-refused : goal.returns-clause-refused
returns-clause-refused c = refused_so (λ v. v.items) c.args.bytes.now c.migrated.result c.migrated.ensures.ok c.migrated.ensures.err
