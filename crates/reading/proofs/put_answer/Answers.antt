-- A sheet where reading went on to the end, else the line that names what is wrong. Assumes nothing.
use Rattle.std.proofs.Common.{None, ◌≡◌, ◌++◌, length, sym, ap, ◌∙◌, arith}
use Rattle.buffer.proofs.Pages.{writes_both}
use Rattle.words.specs.declared.scan.Reader.{Reader}
use Rattle.words.specs.Scan.{text_read}
use Rattle.words.specs.Sheets.{trailer_of, answer_text}
use Rattle.reading.proofs.Answering.{sheet_taken, refused_line}
use Rattle.reading.proofs.put_answer.Goals as goal

pub returns-in-None : goal.returns-in-None
returns-in-None c =
    let text = c.args.text.now in
    let going : (text_read text).reader.stop ≡ None = ap (λ (r : Reader). r.stop) (sym c.read_text-r.ensures) ∙ c.in-None.is in
    let ends : c.put_records.new.page.len ≡ length (text_read text).records = omega (arith, c.put_records.ensures.0.ends) in
    let whole : (text_read text).records ++ trailer_of c.put_records.new.page.len ≡ answer_text text = rw ends (sheet_taken text going) in
    rw whole at (writes_both c.put_records.ensures.0 c.put_trailer.ensures)

pub returns-in-Some : goal.returns-in-Some
returns-in-Some c =
    rw (refused_line c.args.text.now c.read_text-r.result c.in-Some.f c.read_text-r.ensures c.in-Some.is) at c.put_fault_line.ensures.0
