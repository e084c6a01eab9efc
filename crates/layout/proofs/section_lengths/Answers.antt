-- Five numbers, each as the directory has it.
use Rattle.lists.specs.Span.{span}
use Rattle.layout.proofs.section_lengths.Goals as goal

pub returns : goal.returns
unfolding span
returns c = rw (c.section_length.ensures.size, c.section_length-2.ensures.size, c.section_length-3.ensures.size, c.section_length-4.ensures.size, c.section_length-5.ensures.size)
