use Rattle.ip_three.proofs.ContentsFound.{alike_stays, left_goes, right_stays}
use Rattle.ip_three.proofs.contents.settled.Goals as goal

pub returns-then-is_one_content : goal.returns-then-is_one_content
returns-then-is_one_content c records o l r base left right = alike_stays o l r (c.is_one_content.ensures records l r left right c.if-is_one_content.true)

pub returns-then-is_one_content-2 : goal.returns-then-is_one_content-2
returns-then-is_one_content-2 c records o l r base left right = right_stays o l r (c.is_one_content-2.ensures records r o right base c.if-is_one_content-2.true)

pub returns-then-is_other_content : goal.returns-then-is_other_content
returns-then-is_other_content c records o l r base left right =
    left_goes o l r (c.is_one_content-3.ensures records l o left base c.if-is_one_content-3.true) (c.is_other_content.ensures records l r left right c.if-is_other_content.true)
