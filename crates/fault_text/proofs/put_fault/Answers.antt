-- One case for each group.
use Rattle.text_rules.specs.Bytes.{bytes_of}
use Rattle.text_rules.specs.Fault.{refused_word, place_word, group_word, fault_text}
use Rattle.fault_text.proofs.put_fault.Goals as goal

pub returns-in-Author : goal.returns-in-Author
unfolding bytes_of refused_word place_word group_word fault_text
returns-in-Author g c = rw c.in-Author.is c.put_refusal.ensures

pub returns-in-Rows : goal.returns-in-Rows
unfolding bytes_of refused_word place_word group_word fault_text
returns-in-Rows g c = rw c.in-Rows.is c.put_refusal-in-Rows.ensures

pub returns-in-Editor : goal.returns-in-Editor
unfolding bytes_of refused_word place_word group_word fault_text
returns-in-Editor g c = rw c.in-Editor.is c.put_refusal-in-Editor.ensures
