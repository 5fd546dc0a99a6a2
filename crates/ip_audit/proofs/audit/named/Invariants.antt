use Rattle.ip_audit.proofs.audit.named.Given as goal

-- what fits some version fits the latest
abbrev pub ghost-name_of_record : goal.ghost-name_of_record
ghost-name_of_record a = 2
