use Rattle.ip_object.proofs.encode.encode_into.Given as goal

abbrev pub ghost-put_body : goal.ghost-put_body
ghost-put_body g a = g.version
