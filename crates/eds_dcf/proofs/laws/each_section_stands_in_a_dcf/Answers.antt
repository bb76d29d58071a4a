use Rattle.eds_dcf.proofs.KeptSectionLemmas.{section_kept, section_of_node}
use Rattle.eds_dcf.proofs.laws.each_section_stands_in_a_dcf.Goals as goal

pub returns-clause-stands : goal.returns-clause-stands
returns-clause-stands c =
    λ sheet node name bitrate writes s there plain. section_kept sheet node name bitrate writes s there plain

pub returns-clause-of_node : goal.returns-clause-of_node
returns-clause-of_node c =
    λ sheet node name bitrate writes t there named. section_of_node sheet node name bitrate writes t there named
