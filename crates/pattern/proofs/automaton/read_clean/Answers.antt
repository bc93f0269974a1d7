-- `automaton::read_clean`: the branches give the tree, or 8; more than 29 atoms give 9.
use Rattle.pattern.proofs.Automata as laws
use Rattle.pattern.proofs.automaton.read_clean.Goals as goal

pub returns : goal.returns
returns c = search (laws.fine-tables)
