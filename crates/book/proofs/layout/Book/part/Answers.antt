-- `Book::part`: each way out is a case of whether macro i has a place.
use native.Mathlib.Omega.{arith}
use Rattle.book.proofs.Bodies.{part-high, part_none, part_out, part_placed, no_part, some-part}
use Rattle.book.proofs.layout.Book.part.Goals as goal

pub returns-then-i-ge1024 : goal.returns-then-i-ge1024
returns-then-i-ge1024 c = let both = let b = c.args.self.now.bytes.now in let o = c.args.self.now.offsets in no_part b o c.args.i c.args.self.now.bytes.ref_ptr (part-high b o c.args.i (omega arith)) in record { part = both.0; place = both.1 }

pub returns-then-end-lt2 : goal.returns-then-end-lt2
returns-then-end-lt2 c = let both = let b = c.args.self.now.bytes.now in let o = c.args.self.now.offsets in no_part b o c.args.i c.args.self.now.bytes.ref_ptr (part_none b o c.args.i (omega arith) (omega arith)) in record { part = both.0; place = both.1 }

pub returns-then-end-count : goal.returns-then-end-count
returns-then-end-count c = let both = let b = c.args.self.now.bytes.now in let o = c.args.self.now.offsets in no_part b o c.args.i c.args.self.now.bytes.ref_ptr (part_none b o c.args.i (omega arith) (omega arith)) in record { part = both.0; place = both.1 }

pub returns-then-self-end : goal.returns-then-self-end
returns-then-self-end c = let both = let b = c.args.self.now.bytes.now in let o = c.args.self.now.offsets in no_part b o c.args.i c.args.self.now.bytes.ref_ptr (part_out b o c.args.i (omega arith) (omega arith) (omega arith)) in record { part = both.0; place = both.1 }

pub returns : goal.returns
returns c = let both = let b = c.args.self.now.bytes.now in let o = c.args.self.now.offsets in some-part b o c.args.i c.args.self.now.bytes.ref_ptr (part_placed b o c.args.i (omega arith) (omega arith) (omega arith)) in record { part = both.0; place = both.1 }
