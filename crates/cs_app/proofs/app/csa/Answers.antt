use Rattle.cs_words.specs.Meaning.{words_text}
use Rattle.cs_app.specs.Answers.{refused_line}
use Rattle.cs_app.proofs.AnswerLemmas.{whole_is_done}
use Rattle.cs_app.proofs.AcceptedLemmas.{acceptable_is_answered, type_refused_is_told}
use Rattle.cs_app.proofs.WrittenAnswers.{ends_written, ends_read, no_read_fault, no_want_of_memory, sink_failed, ends_answered, ends_refused}
use Rattle.cs_app.proofs.app.csa.Goals as goal

pub returns-in-Ok-clause-written : goal.returns-in-Ok-clause-written
returns-in-Ok-clause-written g c = λ done.
    let answer = c.in-Ok.answer in
    ends_written _ (words_text c.args.words.now) _ answer.status c.ended.result answer.text.items c.write_all_of.result _ _ c.ended.ensures
    c.in-Ok.ensures.whole (rw c.as_slice.ensures.value at c.write_all_of.ensures.all) done

pub returns-in-Ok-clause-read_to_the_end : goal.returns-in-Ok-clause-read_to_the_end
returns-in-Ok-clause-read_to_the_end g c = λ command meant reads read.
    ends_read c.in-Ok.answer.status c.ended.result c.write_all_of.result _ c.ended.ensures (c.in-Ok.ensures.read command meant reads) read

pub returns-in-Ok-clause-read_fault : goal.returns-in-Ok-clause-read_fault
returns-in-Ok-clause-read_fault g c = λ fault.
    let answer = c.in-Ok.answer in
    let done = whole_is_done _ (words_text c.args.words.now) _ answer.status answer.text.items c.in-Ok.ensures.whole in
    no_read_fault answer.status c.ended.result c.write_all_of.result c.ended.ensures done fault

pub returns-in-Ok-clause-read_fault_writes_nothing : goal.returns-in-Ok-clause-read_fault_writes_nothing
returns-in-Ok-clause-read_fault_writes_nothing g c = λ fault.
    let answer = c.in-Ok.answer in
    let done = whole_is_done _ (words_text c.args.words.now) _ answer.status answer.text.items c.in-Ok.ensures.whole in
    no_read_fault answer.status c.ended.result c.write_all_of.result c.ended.ensures done fault

pub returns-in-Ok-clause-write_fault : goal.returns-in-Ok-clause-write_fault
returns-in-Ok-clause-write_fault g c = λ fault.
    let answer = c.in-Ok.answer in
    let done = whole_is_done _ (words_text c.args.words.now) _ answer.status answer.text.items c.in-Ok.ensures.whole in
    sink_failed answer.status c.ended.result c.write_all_of.result _ c.ended.ensures done c.write_all_of.ensures.fault fault

pub returns-in-Ok-clause-write_fault_writes_a_part : goal.returns-in-Ok-clause-write_fault_writes_a_part
returns-in-Ok-clause-write_fault_writes_a_part g c = λ fault.
    let answer = c.in-Ok.answer in
    let done = whole_is_done _ (words_text c.args.words.now) _ answer.status answer.text.items c.in-Ok.ensures.whole in
    let part =
    sink_failed answer.status c.ended.result c.write_all_of.result _ c.ended.ensures done
    (rw c.as_slice.ensures.value at c.write_all_of.ensures.part) fault in
    (answer.status, answer.text.items, c.in-Ok.ensures.whole, part)

pub returns-in-Ok-clause-memory_writes_nothing : goal.returns-in-Ok-clause-memory_writes_nothing
returns-in-Ok-clause-memory_writes_nothing g c = λ memory.
    let answer = c.in-Ok.answer in
    let done = whole_is_done _ (words_text c.args.words.now) _ answer.status answer.text.items c.in-Ok.ensures.whole in
    no_want_of_memory answer.status c.ended.result c.write_all_of.result c.ended.ensures done memory

pub returns-in-Ok-clause-complete : goal.returns-in-Ok-clause-complete
returns-in-Ok-clause-complete g c = λ acceptable no_read_fault no_write_fault memory.
    let answer = c.in-Ok.answer in
    let answered =
    acceptable_is_answered _ (words_text c.args.words.now) _ answer.status answer.text.items acceptable
    (c.in-Ok.ensures.only acceptable.command acceptable.meant) in
    ends_answered answer.status c.ended.result c.write_all_of.result _ c.ended.ensures answered c.write_all_of.ensures.fault no_write_fault

pub returns-in-Ok-clause-refused_by_types : goal.returns-in-Ok-clause-refused_by_types
returns-in-Ok-clause-refused_by_types g c = λ refused no_read_fault no_write_fault memory.
    let answer = c.in-Ok.answer in
    let told =
    type_refused_is_told _ (words_text c.args.words.now) _ answer.status answer.text.items _ _ refused
    (c.in-Ok.ensures.only refused.command refused.meant) in
    ends_refused (refused_line refused) answer.text.items answer.status c.ended.result c.write_all_of.result _ _ _ c.ended.ensures told
    (rw c.as_slice.ensures.value at c.write_all_of.ensures.all) c.write_all_of.ensures.fault no_write_fault
