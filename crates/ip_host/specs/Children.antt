-- What a child is started with, and what its status says.
--     folder_word dir, child_words dir job
--     exit_by code, exit_told child
use Rattle.std.specs.Prelude.{ℕ, ℤ, List, [], ◌∷◌, ◌++◌, ◌==◌, if◌then◌else◌, Option, Some, None, option_map, map, codes}
use Rattle.std.specs.Fmt.{decimal}
use Rattle.std.specs.Process.{child_status, exit_code}
use Rattle.std.specs.declared.process.child.Child.{Child}
use Rattle.ip_base.specs.declared.exit.Exit.{Exit}
use Rattle.ip_base.specs.declared.exit.Exit.TheVariants.{Code, Signal}
use Rattle.ip_spawn.specs.declared.job.Job.{Job}
use Rattle.ip_spawn.specs.Jobs.{numbers_of}

-- what options begin with
abbrev pub dash : ℕ
dash = 45

-- the folder's word: "./" stands in front of one that begins with a dash
abbrev pub folder_word : List ℕ → List ℕ
folder_word [] = []
folder_word (first ∷ rest) = if first == dash then codes "./" ++ first ∷ rest else first ∷ rest

-- the words behind the program's name
abbrev pub child_words : List ℕ → Job → List (List ℕ)
child_words dir job = codes "worker" ∷ folder_word dir ∷ map decimal (numbers_of job)

-- how a child ended, by the exit code in its status; there is none where a signal ended it
abbrev pub exit_by : Option ℤ → Exit
exit_by (Some code) = Code code
exit_by None = Signal

-- how the child ended, once a wait has told it
abbrev pub exit_told : {P I O E : Type 0} → Child P I O E → Option Exit
exit_told child = option_map (λ status. exit_by (exit_code status)) (child_status child)
