use Rattle.file_read.proofs.Reader.{few-read}
use Rattle.api.proofs.merkazobi_section.Goals as goal

pub tell_part-requires : goal.tell_part-requires
tell_part-requires c = rw c.read.ensures (few-read c.args.file.now)
