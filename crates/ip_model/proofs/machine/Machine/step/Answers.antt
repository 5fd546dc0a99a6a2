use Rattle.std.proofs.Common.{refl, sym, subst, ◌∙◌}
use Rattle.std.specs.Prelude.{Some}
use Rattle.ip_spec.specs.declared.command.Command.{Command}
use Rattle.ip_spec.specs.Record.{IsInfo}
use Rattle.ip_model.specs.Working.{Models, HasInfo}
use Rattle.ip_model.proofs.MachineLaws.{idle_told}
use Rattle.ip_model.proofs.machine.Machine.step.Goals as goal

pub returns-in_ok-set-in-Set : goal.returns-in_ok-set-in-Set
returns-in_ok-set-in-Set c s sound info is =
    subst (λ (k : Command). Models s k (Some c.in_ok-set-in-Set.field-0) c.set.new.self) ((λ i. Command.Set (c.steps.ensures i) (c.in_ok-copy-in-Set.ensures i)) ∙ sym c.in-Set.is) (c.in_ok-set-in-Set.field-0, refl, c.in_ok-set-in-Set.ensures s is)

pub returns-in_ok-rm-in-Rm : goal.returns-in_ok-rm-in-Rm
returns-in_ok-rm-in-Rm c s sound info is =
    subst (λ (k : Command). Models s k (Some c.in_ok-rm-in-Rm.field-0) c.rm.new.self) ((λ i. Command.Rm (c.steps-in-Rm.ensures i)) ∙ sym c.in-Rm.is) (c.in_ok-rm-in-Rm.field-0, refl, c.in_ok-rm-in-Rm.ensures s is)

pub returns-in_ok-graft-in-Graft : goal.returns-in_ok-graft-in-Graft
returns-in_ok-graft-in-Graft c s sound info is =
    subst (λ (k : Command). Models s k (Some c.in_ok-graft-in-Graft.field-0) c.graft.new.self) ((λ i. Command.Graft c.in-Graft.target (c.steps-in-Graft.ensures i) (c.steps-in-Graft-2.ensures i)) ∙ sym c.in-Graft.is) (c.in_ok-graft-in-Graft.field-0, refl, c.in_ok-graft-in-Graft.ensures s is)

pub returns-in_ok-get-in-Get : goal.returns-in_ok-get-in-Get
returns-in_ok-get-in-Get c s sound info is =
    subst (λ (k : Command). Models s k (Some c.in_ok-get-in-Get.field-0) c.args.self.now) ((λ i. Command.Get (c.steps-in-Get.ensures i)) ∙ sym c.in-Get.is) (c.in_ok-get-in-Get.field-0, refl, c.in_ok-get-in-Get.ensures s is)

pub returns-in_ok-list-in-List : goal.returns-in_ok-list-in-List
returns-in_ok-list-in-List c s sound info is =
    subst (λ (k : Command). Models s k (Some c.in_ok-list-in-List.field-0) c.args.self.now) ((λ i. Command.List (c.steps-in-List.ensures i)) ∙ sym c.in-List.is) (c.in_ok-list-in-List.field-0, refl, c.in_ok-list-in-List.ensures s is)

pub returns-in_ok-cat-in-Cat : goal.returns-in_ok-cat-in-Cat
returns-in_ok-cat-in-Cat c s sound info is =
    subst (λ (k : Command). Models s k (Some c.in_ok-cat-in-Cat.field-0) c.args.self.now) ((λ i. Command.Cat c.in-Cat.target (c.steps-in-Cat.ensures i)) ∙ sym c.in-Cat.is) (c.in_ok-cat-in-Cat.field-0, refl, (s, is, c.in_ok-cat-in-Cat.ensures s is))

pub returns-in_ok-commit-in-Commit : goal.returns-in_ok-commit-in-Commit
returns-in_ok-commit-in-Commit c s sound info is =
    let given : IsInfo c.in-Commit.info = subst HasInfo c.in-Commit.is info in
    let copied : IsInfo c.in_ok-copied-in-Commit.field-0 = subst IsInfo (sym c.in_ok-copied-in-Commit.ensures) given in
    subst (λ (k : Command). Models s k (Some c.in_ok-commit-in-Commit.field-0) c.commit.new.self) ((λ i. Command.Commit (c.in_ok-copy-in-Commit.ensures i) (c.in_ok-copied-in-Commit.ensures i)) ∙ sym c.in-Commit.is)
    (c.in_ok-commit-in-Commit.field-0, refl, c.in_ok-commit-in-Commit.ensures s sound copied is)

pub returns-in_ok-branch-in-Branch : goal.returns-in_ok-branch-in-Branch
returns-in_ok-branch-in-Branch c s sound info is =
    subst (λ (k : Command). Models s k (Some c.in_ok-branch-in-Branch.field-0) c.branch-self.new.self) ((λ i. Command.Branch (c.in_ok-copy-in-Branch.ensures i) c.in-Branch.target) ∙ sym c.in-Branch.is) (c.in_ok-branch-in-Branch.field-0, refl, c.in_ok-branch-in-Branch.ensures s is)

pub returns-in_ok-branches-in-Branches : goal.returns-in_ok-branches-in-Branches
returns-in_ok-branches-in-Branches c s sound info is =
    subst (λ (k : Command). Models s k (Some c.in_ok-branches-in-Branches.field-0) c.args.self.now) (sym c.in-Branches.is) (c.in_ok-branches-in-Branches.field-0, refl, (s, is, c.in_ok-branches-in-Branches.ensures s sound.repository is))

pub returns-in_ok-show-in-Show : goal.returns-in_ok-show-in-Show
returns-in_ok-show-in-Show c s sound info is =
    subst (λ (k : Command). Models s k (Some c.in_ok-show-in-Show.field-0) c.args.self.now) (sym c.in-Show.is) (c.in_ok-show-in-Show.field-0, refl, (s, is, c.in_ok-show-in-Show.ensures s is))

pub returns-in_ok-log-in-Log : goal.returns-in_ok-log-in-Log
returns-in_ok-log-in-Log c s sound info is =
    subst (λ (k : Command). Models s k (Some c.in_ok-log-in-Log.field-0) c.args.self.now) (sym c.in-Log.is) (c.in_ok-log-in-Log.field-0, refl, (s, is, c.in_ok-log-in-Log.ensures s sound.repository is))

pub returns-in_ok-lcas-in-Lcas : goal.returns-in_ok-lcas-in-Lcas
returns-in_ok-lcas-in-Lcas c s sound info is =
    subst (λ (k : Command). Models s k (Some c.in_ok-lcas-in-Lcas.field-0) c.args.self.now) (sym c.in-Lcas.is) (c.in_ok-lcas-in-Lcas.field-0, refl, (s, is, c.in_ok-lcas-in-Lcas.ensures s sound.repository is))

pub returns-in-Hash : goal.returns-in-Hash
returns-in-Hash c s sound info is =
    subst (λ (k : Command). Models s k (Some c.hash.result) c.args.self.now) ((λ i. Command.Hash (c.as_slice.ensures i)) ∙ sym c.in-Hash.is) (c.hash.result, refl, (s, is, c.hash.ensures s))

pub returns-in_ok-stat-in-Stat : goal.returns-in_ok-stat-in-Stat
returns-in_ok-stat-in-Stat c s sound info is =
    subst (λ (k : Command). Models s k (Some c.in_ok-stat-in-Stat.field-0) c.args.self.now) (sym c.in-Stat.is) (c.in_ok-stat-in-Stat.field-0, refl, (s, is, c.in_ok-stat-in-Stat.ensures s is))

pub returns-in-Look : goal.returns-in-Look
returns-in-Look c s sound info is = idle_told c.args.self.now s is c.args.command.now c.in-Look.is
