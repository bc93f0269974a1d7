-- `add_element`: one case for each kind.
use Rattle.brackets.proofs.Adding.{class-known, element-added}
use Rattle.brackets.proofs.set.add_element.Goals as goal

pub add_class-requires : goal.add_class-requires
add_class-requires c = search class-known

pub returns-in-Byte : goal.returns-in-Byte
returns-in-Byte c = search element-added

pub returns-in-Range : goal.returns-in-Range
returns-in-Range c = search element-added

pub returns-in-Class : goal.returns-in-Class
returns-in-Class c = search element-added
