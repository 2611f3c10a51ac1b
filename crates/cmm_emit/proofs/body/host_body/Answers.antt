use Rattle.cmm_emit.proofs.body.host_body.Goals as goal

pub returns-in-PutByte-clause-code : goal.returns-in-PutByte-clause-code
returns-in-PutByte-clause-code c next = rw c.in-PutByte.is (c.put_byte_body.ensures.code next)

pub returns-in-GetByte-clause-code : goal.returns-in-GetByte-clause-code
returns-in-GetByte-clause-code c next = rw c.in-GetByte.is (c.get_byte_body.ensures.code next)
