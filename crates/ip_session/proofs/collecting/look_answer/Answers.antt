use Rattle.std.proofs.Common.{rules, arith}
use Rattle.ip_session.proofs.SessionLemmas.{running_is_short, checking_is_short, collected_is_short, idle_is_short, wait_fault_is_short, exit_is_short, rejected_is_short, limit_is_short, memory_is_short}
use Rattle.ip_session.proofs.collecting.look_answer.Goals as goal

pub returns-in-Ok-Running-clause-short : goal.returns-in-Ok-Running-clause-short
returns-in-Ok-Running-clause-short c = running_is_short

pub returns-in-Ok-Checking-clause-short : goal.returns-in-Ok-Checking-clause-short
returns-in-Ok-Checking-clause-short c = checking_is_short c.in-Ok-Checking.left (search rules)

pub returns-in-Ok-Collected-clause-short : goal.returns-in-Ok-Collected-clause-short
returns-in-Ok-Collected-clause-short c = collected_is_short c.in-Ok-Collected.collected.floor c.in-Ok-Collected.collected.left (search rules) (search rules)

pub returns-in-Err-Idle-clause-short : goal.returns-in-Err-Idle-clause-short
returns-in-Err-Idle-clause-short c = idle_is_short

pub returns-in-Err-Wait-clause-short : goal.returns-in-Err-Wait-clause-short
returns-in-Err-Wait-clause-short c = wait_fault_is_short

pub returns-in-Err-Rejected-Exit-clause-short : goal.returns-in-Err-Rejected-Exit-clause-short
returns-in-Err-Rejected-Exit-clause-short c = exit_is_short c.in-Err-Rejected-Exit.exit (search rules)

pub returns-in-Err-Rejected-Differs-clause-short : goal.returns-in-Err-Rejected-Differs-clause-short
returns-in-Err-Rejected-Differs-clause-short c = rejected_is_short c.in-Err-Rejected-Differs.difference (search rules)

pub returns-in-Err-Limit-clause-short : goal.returns-in-Err-Limit-clause-short
returns-in-Err-Limit-clause-short c = limit_is_short c.in-Err-Limit.limit

pub returns-in-Err-Memory-clause-short : goal.returns-in-Err-Memory-clause-short
returns-in-Err-Memory-clause-short c long = omega (arith, long, memory_is_short)
